use Rattle.std.proofs.Common.{◌≡◌, ◌∙◌, subst, IfOk}
use Rattle.rapid_cut.proofs.Cuts.{unstable_of}
use Rattle.rapid_cut.proofs.Batches.{unstable_along}
use Rattle.rapid_cut.proofs.detector.Detector.unstable.Goals as goal

pub returns : goal.returns
returns g c =
    let t = g.T.ObserverTable.observers c.self.inside.table in
    subst (λ l. IfOk c.unstable_ones.result (λ found. found.items ≡ l))
    (unstable_of t c.self.inside.known.reports.direct c.self.inside.known.reports.all c.as_slice.result.now c.self.invariant.0.detecting (c.as_slice.ensures ∙ c.self.invariant.0.active)
    ∙ unstable_along g.T.ObserverTable.observers _ _ c.self.view_is) c.unstable_ones.ensures
