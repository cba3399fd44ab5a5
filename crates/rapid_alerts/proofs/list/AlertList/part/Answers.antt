use Rattle.std.proofs.Common.{◌+◌, [], ◌∷◌, ◌++◌, Some, ap, sym, ◌∙◌}
use Rattle.rapid_model.specs.Process.{Process}
use Rattle.rapid_model.specs.Message.{AlertItem}
use Rattle.rapid_alerts.specs.Alerts.{ListedAlerts, alert_of_ref, alerts_in, kind_of}
use Rattle.rapid_alerts.proofs.Listing.{item_of_alert, listed_is, stretch_more, subject_is}
use Rattle.rapid_alerts.proofs.list.AlertList.part.Goals as goal

pub loop-done-preserved : goal.loop-done-preserved
loop-done-preserved c =
    let at = c.args.from + c.loop-done.done in
    let alert = c.alert_ref-alert.result in
    let subject = c.subject.result.now in
    let said : AlertItem = record { ring = alert.ring; kind = kind_of alert.kind; subject = subject } in
    let same = subject_is (alerts_in c.args.self.now) at (alert_of_ref alert) subject c.subject.ensures c.alert_ref-alert.ensures in
    c.in_ok-push_kept.ensures.pushed
    ∙ ap (λ (l : ListedAlerts). let m : ListedAlerts = record { observer = l.observer; config = l.config; items = l.items ++ said ∷ [] } in m) c.loop-done.invariant
    ∙ listed_is c.args.self.now.observer c.args.self.now.config (sym (stretch_more c.args.self.now.items c.args.from c.loop-done.done said
    (item_of_alert c.args.self.now at (alert_of_ref alert) c.alert_ref-alert.ensures
    ∙ ap (λ (p : Process). let x : AlertItem = record { ring = alert.ring; kind = kind_of alert.kind; subject = p } in Some x) (sym same))))
