use Rattle.std.proofs.Common.{take, All}
use Rattle.rapid_model.specs.Message.{item_of}
use Rattle.rapid_model.specs.Frame.{IsItem}
use Rattle.rapid_alerts.specs.Alerts.{alerts_in}
use Rattle.rapid_wire.proofs.told.tell_alerts.Given as goal

abbrev pub invariant-loop-at : goal.invariant-loop-at
invariant-loop-at l = All (λ a. IsItem (item_of a)) (take l.at (alerts_in l.alerts))
