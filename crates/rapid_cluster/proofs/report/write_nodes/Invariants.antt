use Rattle.std.proofs.Common.{◌≡◌, ◌++◌}
use Rattle.rapid_model.specs.StoredWorld.{world_of}
use Rattle.rapid_cluster.specs.ClusterText.{nodes_text}
use Rattle.rapid_cluster.proofs.report.write_nodes.Given as goal

abbrev pub invariant-loop-before : goal.invariant-loop-before
invariant-loop-before l = l.output.items ≡ l.fn.output.items ++ nodes_text (world_of l.world) l.before
