use Rattle.std.proofs.Common.{◌≡◌, ◌++◌, flat_map, take}
use Rattle.rapid_model.specs.Process.{identifier}
use Rattle.rapid_model.specs.Run.{ReportInstalled}
use Rattle.rapid_model.specs.SimText.{report_line}
use Rattle.rapid_sim.proofs.view.write_installs.Given as goal

abbrev pub invariant-loop-node : goal.invariant-loop-node
invariant-loop-node l =
    l.output.items ≡ l.fn.output.items ++ flat_map (λ p. report_line (ReportInstalled (identifier p) l.configuration)) (take l.node-index l.nodes)
