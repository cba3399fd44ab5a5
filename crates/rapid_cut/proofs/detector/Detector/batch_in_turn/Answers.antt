use Rattle.std.proofs.Common.{◌≡◌, ◌∙◌, ap, sym}
use Rattle.rapid_model.specs.Detector.{Detector}
use Rattle.rapid_cut.specs.Known.{Known}
use Rattle.rapid_cut.proofs.Batches.{closed_after, after_along, kept_along, view_along}
use Rattle.rapid_cut.proofs.detector.Detector.batch_in_turn.Goals as goal

pub returns-then-self-clause-taken : goal.returns-then-self-clause-taken
returns-then-self-clause-taken g c =
    let xs = g.A.InTurn.alerts c.args.alerts.now in
    let d : Detector = record { direct = c.self.inside.known.reports.direct; closed = c.self.inside.closed; skipped = c.self.inside.skipped } in
    closed_after (g.T.ObserverTable.observers c.self.inside.table) d xs c.if-self.true ∙ after_along g.T.ObserverTable.observers _ _ xs c.self.view_is

pub invariant_of-self-in-Err : goal.invariant_of-self-in-Err
invariant_of-self-in-Err g c =
    let known : c.undo.new.self.reports ≡ c.self.inside.known.reports =
    c.undo.ensures.reports ∙ c.take_batch-advance.ensures.before ∙ c.self.invariant.1 in (
      kept_along (g.T.ObserverTable.observers c.self.inside.table) c.self.inside.known.reports c.undo.new.self.reports
          c.self.inside.active c.take_batch-advance.new.active c.self.inside.joiners c.self.inside.closed (sym known) (sym c.in-Err.ensures.active) c.self.invariant.0,
      c.undo.ensures.kept,
    )

pub returns-in-Err-clause-unchanged : goal.returns-in-Err-clause-unchanged
returns-in-Err-clause-unchanged g c =
    view_along c.self.inside.table c.undo.new.self.reports.direct c.self.inside.known.reports.direct c.self.inside.closed c.self.inside.skipped
    (ap (λ (k : Known). k.direct) (c.undo.ensures.reports ∙ c.take_batch-advance.ensures.before ∙ c.self.invariant.1))
    ∙ c.self.view_is
