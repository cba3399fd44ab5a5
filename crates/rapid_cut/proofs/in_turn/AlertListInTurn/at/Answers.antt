use Rattle.rapid_alerts.specs.Alerts.{alert_of_ref, alerts_in}
use Rattle.rapid_alerts.proofs.Listing.{subject_is}
use Rattle.rapid_cut.proofs.in_turn.AlertListInTurn.at.Goals as goal

pub returns-clause-kept : goal.returns-clause-kept
returns-clause-kept c =
    subject_is (alerts_in c.args.self.now) c.args.place (alert_of_ref c.alert_ref.result) c.subject.result.now c.subject.ensures c.alert_ref.ensures
