use Rattle.std.proofs.Common.{◌≡◌, ◌++◌, map, take}
use Rattle.rapid_alerts.specs.Alerts.{alert_of, alerts_in}
use Rattle.rapid_alerts.proofs.batch.push_all.Given as goal

abbrev pub invariant-loop-alert : goal.invariant-loop-alert
invariant-loop-alert l =
    (alerts_in l.list ≡ alerts_in l.fn.list ++ map alert_of (take l.alert-index l.alerts))
    × (l.list.observer ≡ l.fn.list.observer)
    × (l.list.config ≡ l.fn.list.config)
