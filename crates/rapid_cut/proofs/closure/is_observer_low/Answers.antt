use Rattle.std.proofs.Common.{Some, Option, ap, sym, ◌∙◌}
use Rattle.rapid_model.specs.Process.{Process}
use Rattle.rapid_model.specs.Reports.{reaches_low}
use Rattle.rapid_cut.proofs.closure.is_observer_low.Goals as goal

pub returns-in-Some : goal.returns-in-Some
returns-in-Some g c =
    c.reaches_low.ensures
    ∙ ap (λ (o : Option Process). reaches_low (g.T.ObserverTable.observers c.args.table.now) c.args.reports.now.direct o)
    (ap Some c.as_ref.ensures ∙ sym c.in-Some.is ∙ c.member_and_observer_near-observer.ensures.observer)
