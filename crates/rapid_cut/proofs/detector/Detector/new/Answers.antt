use Rattle.std.proofs.Common.{subst, sym, false}
use Rattle.rapid_cut.specs.Limits.{IsKept}
use Rattle.rapid_cut.proofs.Batches.{kept_none}
use Rattle.rapid_cut.proofs.detector.Detector.new.Goals as goal

pub invariant_of-result : goal.invariant_of-result
invariant_of-result g c =
    let t = g.T.ObserverTable.observers c.args.table in (
      subst (λ l. IsKept t c.new.result.reports.direct c.new.result.reports.all l 0 false) (sym c.new-2.ensures)
          (kept_none t c.new.result.reports.direct c.new.result.reports.all c.params.ensures.rules c.new.ensures.direct c.new.ensures.all),
      c.new.ensures.kept,
    )
