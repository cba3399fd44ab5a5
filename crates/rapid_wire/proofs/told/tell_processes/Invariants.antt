use Rattle.std.proofs.Common.{take, All}
use Rattle.rapid_model.specs.Process.{IsProcess}
use Rattle.rapid_wire.proofs.told.tell_processes.Given as goal

abbrev pub invariant-loop-process : goal.invariant-loop-process
invariant-loop-process l = All IsProcess (take l.process-index l.processes)
