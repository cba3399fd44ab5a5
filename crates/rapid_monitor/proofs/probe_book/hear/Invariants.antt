use Rattle.std.proofs.Common.{◌≡◌, ◌++◌, map, take, drop}
use Rattle.rapid_monitor.specs.Probes.{heard}
use Rattle.rapid_monitor.proofs.probe_book.hear.Given as goal

abbrev pub invariant-loop-i : goal.invariant-loop-i
invariant-loop-i l = l.edges ≡ map (heard l.process) (take l.i l.initial.edges) ++ drop l.i l.initial.edges
