use Rattle.std.proofs.Common.{◌++◌, map, ap, sym, ◌∙◌}
use Rattle.rapid_alerts.specs.Alerts.{ListedAlerts, alert_of, alerts_in}
use Rattle.rapid_alerts.specs.declared.alert.Alert.{Alert}
use Rattle.rapid_alerts.proofs.Batches.{alike_first}
use Rattle.rapid_alerts.proofs.batch.listed.Goals as goal

pub push_all-requires : goal.push_all-requires
push_all-requires c k d m =
    let h = alike_first c.args.alerts.now c.index-alerts-0.result c.requires k d m in
    let first = sym c.index-alerts-0.is in
    let list = sym c.new-list.ensures in
    (h.0 ∙ ap (λ (x : Alert). x.observer) first ∙ sym c.in_ok-observer.ensures ∙ ap (λ (l : ListedAlerts). l.observer) list, h.1 ∙ ap (λ (x : Alert). x.config) first ∙ ap (λ (l : ListedAlerts). l.config) list)

pub returns : goal.returns
returns c = c.in_ok-push_all.ensures ∙ ap (λ (l : ListedAlerts). alerts_in l ++ map alert_of c.args.alerts.now) c.new-list.ensures
