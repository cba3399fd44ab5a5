use Rattle.std.proofs.Common.{◌≡◌, ◌+◌, [], ◌∷◌, ◌++◌, List, map, take, get_or, ap, sym, subst, ◌∙◌, append_assoc}
use Rattle.std.proofs.lemmas.List.{map_push, take_all, take_more}
use Rattle.rapid_model.specs.Alert as model
use Rattle.rapid_alerts.specs.Alerts.{ListedAlerts, alert_of, alerts_in}
use Rattle.rapid_alerts.specs.declared.alert.Alert.{Alert}
use Rattle.rapid_alerts.proofs.Listing.{listed_more}
use Rattle.rapid_alerts.proofs.batch.push_all.Goals as goal

pub loop-alert-preserved : goal.loop-alert-preserved
loop-alert-preserved c =
    let all = c.args.alerts.now in
    let i = c.loop-alert.alert-index in
    let x = c.alert-item.result in
    let old = alerts_in c.args.list.now in
    let from = subst (λ (y : Alert). (y.observer ≡ c.args.list.now.observer) × (y.config ≡ c.args.list.now.config)) (sym c.alert-item.is) (c.requires i x c.loop-alert-test.true) in
    let pushed = c.in_ok-push.ensures.pushed in
    let front : map alert_of (take (i + 1) all) ≡ map alert_of (take i all) ++ alert_of x ∷ [] =
    ap (map alert_of) (take_more all i x c.loop-alert-test.true) ∙ map_push alert_of (take i all) (get_or all i x) ∙ ap (λ (y : Alert). map alert_of (take i all) ++ alert_of y ∷ []) (sym c.alert-item.is) in (
      listed_more c.loop-alert.list c.push.new.self (alert_of x) pushed (from.0 ∙ sym c.loop-alert.invariant.1) (from.1 ∙ sym c.loop-alert.invariant.2)
          ∙ ap (λ (ys : List model.Alert). ys ++ alert_of x ∷ []) c.loop-alert.invariant.0
          ∙ append_assoc old (map alert_of (take i all)) (alert_of x ∷ [])
          ∙ ap (λ (ys : List model.Alert). old ++ ys) (sym front),
      ap (λ (l : ListedAlerts). l.observer) pushed ∙ c.loop-alert.invariant.1,
      ap (λ (l : ListedAlerts). l.config) pushed ∙ c.loop-alert.invariant.2,
    )

pub returns : goal.returns
returns c =
    c.loop-alert.invariant.0
    ∙ ap (λ (xs : List Alert). alerts_in c.args.list.now ++ map alert_of xs) (take_all c.loop-alert.alert-index c.args.alerts.now c.loop-alert-test.false)
