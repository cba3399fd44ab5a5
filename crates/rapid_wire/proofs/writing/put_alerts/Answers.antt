use Rattle.std.proofs.Common.{◌≤◌, ◌++◌, List, ℕ, ap, subst, ◌∙◌}
use Rattle.std.specs.List.{concat}
use Rattle.std.proofs.lemmas.List.{take_all}
use Rattle.rapid_model.specs.Alert.{Alert}
use Rattle.rapid_model.specs.Message.{item_of}
use Rattle.rapid_model.specs.Frame.{item_bytes}
use Rattle.rapid_alerts.specs.Alerts.{alert_of_ref, alerts_in}
use Rattle.rapid_wire.proofs.Joined.{all_said, said_more}
use Rattle.rapid_wire.proofs.writing.put_alerts.Goals as goal

pub loop-at-preserved : goal.loop-at-preserved
loop-at-preserved c =
    c.in_ok-put_alert.ensures
    ∙ ap (λ (x : List ℕ). x ++ item_bytes (item_of (alert_of_ref c.alert_ref.result))) c.loop-at.invariant
    ∙ said_more c.args.out.now.items (alerts_in c.args.alerts.now) c.loop-at.at (alert_of_ref c.alert_ref.result) c.alert_ref.ensures

pub returns : goal.returns
returns c =
    c.loop-at.invariant
    ∙ ap (λ (xs : List Alert). c.args.out.now.items ++ concat (all_said xs))
    (take_all c.loop-at.at (alerts_in c.args.alerts.now) (subst (λ n. n ≤ c.loop-at.at) c.len-at-end.ensures.alerts c.loop-at-test.false))
