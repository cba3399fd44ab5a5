use Rattle.std.proofs.Common.{◌∙◌, Result, Ok, Err}
use Rattle.std.specs.Prelude.{OnErr}
use Rattle.rapid_rings.proofs.RowEdits.{say_same_both, edge_after, same_unobserved}
use Rattle.rapid_rings.proofs.rows.Rows.add_edge.Goals as goal

on_error : {A E : Type 0} (r : Result A E) (P : Type 0) → P → OnErr r P
on_error (Ok x) P h = tt
on_error (Err e) P h = h

pub returns-in_err-by-clause-unchanged : goal.returns-in_err-by-clause-unchanged
returns-in_err-by-clause-unchanged c = on_error _ _ (say_same_both _ _ _ c.place_for.ensures.same c.place_for-2.ensures.same)

pub returns-in_err-of-clause-unchanged : goal.returns-in_err-of-clause-unchanged
returns-in_err-of-clause-unchanged c = on_error _ _ (say_same_both _ _ _ c.place_for.ensures.same c.place_for-2.ensures.same)

pub returns-clause-added : goal.returns-clause-added
returns-clause-added c =
    let same = say_same_both _ _ _ c.place_for.ensures.same c.place_for-2.ensures.same in
    edge_after _ _ _ c.args.ring c.args.observer.now c.args.subject.now same
    (c.set_observer.ensures.added c.in_ok-by.by c.args.observer.now c.args.subject.now c.in_ok-of.ensures
    (c.place_for-2.ensures.same.places c.args.subject.now c.in_ok-place.place c.in_ok-place.ensures.place) c.in_ok-by.ensures.place)

pub returns-clause-counts : goal.returns-clause-counts
returns-clause-counts c =
    c.set_observer.ensures.counts c.args.subject.now (c.place_for-2.ensures.same.places c.args.subject.now c.in_ok-place.place c.in_ok-place.ensures.place)
    ∙ same_unobserved _ _ c.args.subject.now (say_same_both _ _ _ c.place_for.ensures.same c.place_for-2.ensures.same)
