use Rattle.std.proofs.Common.{◌≡◌, ◌*◌, ◌≤◌, length, take}
use Rattle.std.specs.List.{concat}
use Rattle.rapid_alerts.specs.Alerts.{alerts_in}
use Rattle.rapid_wire.proofs.Joined.{all_said}
use Rattle.rapid_wire.proofs.lengths.alerts_length.Given as goal

abbrev pub invariant-loop-at : goal.invariant-loop-at
invariant-loop-at l = (l.bytes ≡ length (concat (all_said (take l.at (alerts_in l.alerts))))) × (l.bytes ≤ 545 * l.at)
