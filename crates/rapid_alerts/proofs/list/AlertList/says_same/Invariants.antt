use Rattle.std.proofs.Common.{◌≡◌, take}
use Rattle.rapid_alerts.specs.Alerts.{alerts_in}
use Rattle.rapid_alerts.proofs.list.AlertList.says_same.Given as goal

abbrev pub invariant-loop-at : goal.invariant-loop-at
invariant-loop-at l = take l.at (alerts_in l.self) ≡ take l.at (alerts_in l.other)
