use Rattle.std.proofs.Common.{◌≤◌, length, sym, subst}
use Rattle.std.specs.Arc.{arc_value}
use Rattle.rapid_alerts.specs.Alerts.{ListedAlerts, alerts_in}
use Rattle.rapid_alerts.proofs.Batches.{batch_some, batch_few}
use Rattle.rapid_alerts.proofs.batch.Batch.alerts.Goals as goal

pub returns-clause-some : goal.returns-clause-some
returns-clause-some c = subst (λ (l : ListedAlerts). 1 ≤ length (alerts_in l)) (sym c.deref.ensures) (batch_some (alerts_in (arc_value c.self.inside.alerts)) c.self.invariant)

pub returns-clause-few : goal.returns-clause-few
returns-clause-few c = subst (λ (l : ListedAlerts). length (alerts_in l) ≤ 2048) (sym c.deref.ensures) (batch_few (alerts_in (arc_value c.self.inside.alerts)) c.self.invariant)
