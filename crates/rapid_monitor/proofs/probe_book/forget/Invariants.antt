use Rattle.std.proofs.Common.{◌≡◌, ◌++◌, map, take, drop}
use Rattle.rapid_monitor.specs.Probes.{unheard}
use Rattle.rapid_monitor.proofs.probe_book.forget.Given as goal

abbrev pub invariant-loop-i : goal.invariant-loop-i
invariant-loop-i l = l.edges ≡ map unheard (take l.i l.initial.edges) ++ drop l.i l.initial.edges
