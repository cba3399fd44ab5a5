use Rattle.std.proofs.Common.{not, refl, ap, sym, ◌∙◌}
use Rattle.rapid_alerts.specs.Alerts.{alert_of_ref, alerts_in}
use Rattle.rapid_alerts.specs.contracts.alert.KindPartialEq.TheImpl.{ghosts}
use Rattle.rapid_alerts.proofs.Listing.{fronts_more, parts_back, same_at, same_parts}
use Rattle.rapid_alerts.proofs.list.AlertList.says_same.Goals as goal
use Rattle.std.proofs.lemmas.Bool.{not-false}

pub loop-at-preserved : goal.loop-at-preserved
loop-at-preserved c =
    fronts_more (alerts_in c.args.self.now) (alerts_in c.args.other.now) c.loop-at.at (alert_of_ref c.alert_ref.result) (alert_of_ref c.alert_ref-in-loop-at.result) c.alert_ref.ensures c.alert_ref-in-loop-at.ensures
    (same_parts ghosts.eq refl refl c.alert_ref.result c.alert_ref-in-loop-at.result (not-false _ (sym c.ne.ensures ∙ c.if-ne.false))) c.loop-at.invariant

pub returns-then-ne-clause-told : goal.returns-then-ne-clause-told
returns-then-ne-clause-told c e =
    ap not
    (sym (parts_back ghosts.eq refl refl c.alert_ref.result c.alert_ref-in-loop-at.result
    (same_at (alerts_in c.args.self.now) (alerts_in c.args.other.now) c.loop-at.at (alert_of_ref c.alert_ref.result) (alert_of_ref c.alert_ref-in-loop-at.result) e c.alert_ref.ensures c.alert_ref-in-loop-at.ensures)))
    ∙ sym c.ne.ensures ∙ c.if-ne.true
