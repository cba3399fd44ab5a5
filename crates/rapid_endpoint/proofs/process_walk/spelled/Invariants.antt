use Rattle.std.proofs.Common.{◌≡◌, take, All}
use Rattle.std.specs.List.{concat}
use Rattle.rapid_model.specs.Process.{IsProcess}
use Rattle.rapid_endpoint.proofs.process_walk.spelled.Given as goal

abbrev pub invariant-loop-process : goal.invariant-loop-process
invariant-loop-process l =
    (l.bytes.items ≡ concat (take l.process-index l.processes)) × All IsProcess (take l.process-index l.processes)
