use Rattle.std.proofs.Common.{◌≡◌, ◌++◌, take}
use Rattle.std.specs.List.{concat}
use Rattle.rapid_alerts.specs.Alerts.{alerts_in}
use Rattle.rapid_wire.proofs.Joined.{all_said}
use Rattle.rapid_wire.proofs.writing.put_alerts.Given as goal

abbrev pub invariant-loop-at : goal.invariant-loop-at
invariant-loop-at l = l.out.items ≡ l.fn.out.items ++ concat (all_said (take l.at (alerts_in l.alerts)))
