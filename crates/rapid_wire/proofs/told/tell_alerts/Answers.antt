use Rattle.std.proofs.Common.{◌≤◌, All, subst}
use Rattle.std.proofs.lemmas.List.{take_all}
use Rattle.rapid_model.specs.Message.{item_of}
use Rattle.rapid_model.specs.Frame.{IsItem}
use Rattle.rapid_alerts.specs.Alerts.{alert_of_ref, alerts_in}
use Rattle.rapid_wire.proofs.Joined.{all_more}
use Rattle.rapid_wire.proofs.told.tell_alerts.Goals as goal

pub loop-at-preserved : goal.loop-at-preserved
loop-at-preserved c =
    all_more (λ a. IsItem (item_of a)) (alerts_in c.args.alerts.now) c.loop-at.at (alert_of_ref c.alert_ref.result) c.alert_ref.ensures c.loop-at.invariant c.tell_alert.ensures

pub returns : goal.returns
returns c =
    subst (All (λ a. IsItem (item_of a)))
    (take_all c.loop-at.at (alerts_in c.args.alerts.now) (subst (λ n. n ≤ c.loop-at.at) c.len-at-end.ensures.alerts c.loop-at-test.false)) c.loop-at.invariant
