use Rattle.std.proofs.Common.{◌≡◌, true, take}
use Rattle.rapid_model.specs.Process.{Process, is_in}
use Rattle.rapid_rings.specs.Observing.{ObservesNobody}
use Rattle.rapid_cut.proofs.closure.may_any_observe.Given as goal

abbrev pub invariant-loop-process : goal.invariant-loop-process
invariant-loop-process g l = (o : Process) → is_in (take l.process-index l.processes) o ≡ true → ObservesNobody (g.T.ObserverTable.observers l.table) o
