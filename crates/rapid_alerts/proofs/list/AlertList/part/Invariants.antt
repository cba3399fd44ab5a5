use Rattle.std.proofs.Common.{◌≡◌, take, drop}
use Rattle.rapid_alerts.proofs.list.AlertList.part.Given as goal

abbrev pub invariant-loop-done : goal.invariant-loop-done
invariant-loop-done l = l.part ≡ record l.self { items = take l.done (drop l.from l.self.items) }
