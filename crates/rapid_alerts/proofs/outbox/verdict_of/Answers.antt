use Rattle.std.proofs.Common.{refl, subst}
use Rattle.rapid_alerts.specs.Alerts.{alert_of}
use Rattle.rapid_alerts.specs.Outboxes.{refusal}
use Rattle.rapid_alerts.specs.Refusals.{RefusesIfAny}
use Rattle.rapid_alerts.proofs.Raisings.{refused_by}
use Rattle.rapid_alerts.proofs.outbox.verdict_of.Goals as goal

pub returns-in-Some-clause-refused : goal.returns-in-Some-clause-refused
returns-in-Some-clause-refused g c =
    let t = g.T.ObserverTable.observers c.args.table.now in
    let a = alert_of c.args.alert.now in
    refused_by (refusal t c.args.owner.now a) _ _ c.in-Some.error refl (subst (RefusesIfAny (refusal t c.args.owner.now a)) c.in-Some.is c.refusal_of.ensures)
