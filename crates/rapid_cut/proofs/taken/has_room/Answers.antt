use Rattle.std.proofs.Common.{◌∙◌, ap, sym, nat_lt}
use Rattle.rapid_alerts.specs.Alerts.{alert_of_ref}
use Rattle.rapid_cut.proofs.Joiners.{taken_when, taken_where_room}
use Rattle.rapid_cut.proofs.taken.has_room.Goals as goal

pub returns-then-counted : goal.returns-then-counted
returns-then-counted g c =
    c.if-counted.true
    ∙ sym (taken_when (g.T.ObserverTable.observers c.args.table.now) c.args.reports.now.direct (alert_of_ref c.args.alert.now) c.requires.well_formed (sym c.requires.counted ∙ c.if-counted.true))

pub returns-else-counted : goal.returns-else-counted
returns-else-counted g c =
    ap (λ n. nat_lt n 512) c.requires.joiners
    ∙ sym (taken_where_room (g.T.ObserverTable.observers c.args.table.now) c.args.reports.now.direct (alert_of_ref c.args.alert.now) c.requires.well_formed (sym c.requires.counted ∙ c.if-counted.false))
