use Rattle.rapid_model.specs.StoredWorld.{world_of}
use Rattle.rapid_cluster.specs.ClusterText.{all_installed}
use Rattle.rapid_cluster.specs.Noting.{Notes}
use Rattle.rapid_cluster.proofs.report.is_split.Given as goal

abbrev pub invariant-loop-before : goal.invariant-loop-before
invariant-loop-before l = Notes (all_installed (world_of l.world) l.before) l.agreement.kept.items l.agreement.split
