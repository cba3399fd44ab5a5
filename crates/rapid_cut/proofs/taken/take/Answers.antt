use Rattle.std.proofs.Common.{◌∙◌, sym}
use Rattle.rapid_model.specs.Reports.{report_of}
use Rattle.rapid_alerts.specs.Alerts.{alert_of_ref}
use Rattle.rapid_cut.proofs.Taking.{insert_known, known_taken}
use Rattle.rapid_cut.proofs.taken.take.Goals as goal

pub returns-then-has_bit-clause-taken : goal.returns-then-has_bit-clause-taken
returns-then-has_bit-clause-taken g c =
    sym (known_taken (g.T.ObserverTable.observers c.args.table.now) c.args.known.now.reports.direct (alert_of_ref c.args.turn.now.alert) (sym c.check-well_formed.ensures.value ∙ c.if-not-well_formed.false)
    (c.on-so_far.ensures.direct c.args.turn.now.alert.ring ∙ sym c.has_bit.ensures ∙ c.if-has_bit.true))

pub returns-then-has_bit-clause-direct : goal.returns-then-has_bit-clause-direct
returns-then-has_bit-clause-direct g c =
    sym (insert_known c.args.known.now.reports.direct (report_of (alert_of_ref c.args.turn.now.alert)) (c.on-so_far.ensures.direct c.args.turn.now.alert.ring ∙ sym c.has_bit.ensures ∙ c.if-has_bit.true))

pub returns-then-has_bit-clause-all : goal.returns-then-has_bit-clause-all
returns-then-has_bit-clause-all g c =
    let x = report_of (alert_of_ref c.args.turn.now.alert) in
    sym (insert_known c.args.known.now.reports.all x (c.requires.known x (c.on-so_far.ensures.direct c.args.turn.now.alert.ring ∙ sym c.has_bit.ensures ∙ c.if-has_bit.true)))
