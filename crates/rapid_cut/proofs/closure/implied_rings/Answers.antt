use Rattle.std.proofs.Common.{◌≡◌, ◌∙◌, ◌<◌, ◌≤◌, not, ◌&&◌, ap, sym, subst}
use Rattle.rapid_model.specs.Reports.{reaches_low}
use Rattle.rapid_alerts.specs.RingMasks.{has_ring}
use Rattle.rapid_cut.proofs.Passing.{missing_is, missing_none, missing_more, missing_all}
use Rattle.rapid_cut.proofs.closure.implied_rings.Goals.{then-not-has_bit, else-not-has_bit}
use Rattle.rapid_cut.proofs.closure.implied_rings.Goals as goal

pub loop-ring-init : goal.loop-ring-init
loop-ring-init g c = missing_none (g.T.ObserverTable.observers c.args.table.now) c.args.reports.now.direct c.args.subject.now c.args.mask

pub loop-ring-preserved : goal.loop-ring-preserved
loop-ring-preserved g c =
    let t = g.T.ObserverTable.observers c.args.table.now in
    let d = c.args.reports.now.direct in
    let s = c.args.subject.now in
    let n = c.loop-ring.ring in
    let below : n < t.params.k = subst (λ k. n < k) (c.k-ring-end.ensures.value ∙ ap (λ p. p.k) c.params.ensures.value) c.loop-ring-test.true in
    let added : c.if-not-has_bit.is_added ≡ (not (has_ring c.args.mask n) && reaches_low t d (t.observer n s)) =
    elim c.if-not-has_bit.branch [
      | then-not-has_bit w ↦ w.is_added-is ∙ w.is_observer_low-is_added.ensures ∙ sym (ap (λ b. not b && reaches_low t d (t.observer n s)) (sym c.has_bit.ensures ∙ w.if-not-has_bit.true))
      | else-not-has_bit w ↦ w.is_added-is ∙ ap not w.if-not-has_bit.false ∙ sym (ap (λ b. not b && reaches_low t d (t.observer n s)) (sym c.has_bit.ensures ∙ w.if-not-has_bit.false))
    ] in
    missing_more t d s c.args.mask n c.loop-ring.implied c.with_ring-implied.result c.if-not-has_bit.is_added
    (missing_is t d s c.args.mask n c.if-not-has_bit.is_added below c.requires.low added) c.with_ring-implied.ensures c.loop-ring.invariant

pub returns : goal.returns
returns g c =
    let t = g.T.ObserverTable.observers c.args.table.now in
    missing_all t c.args.reports.now.direct c.args.subject.now c.args.mask c.loop-ring.ring c.loop-ring.implied
    (subst (λ n. n ≤ c.loop-ring.ring) (c.k-ring-end.ensures.value ∙ ap (λ p. p.k) c.params.ensures.value) c.loop-ring-test.false) c.loop-ring.invariant
