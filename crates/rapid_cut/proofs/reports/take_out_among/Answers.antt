use Rattle.std.proofs.Common.{◌≡◌, ◌++◌, ◌∙◌, ap, sym, subst, set, Some, None}
use Rattle.rapid_model.specs.Process.{Process}
use Rattle.rapid_cut.specs.declared.mask.Masks.{Masks}
use Rattle.rapid_cut.specs.Growing.{TakesOut}
use Rattle.rapid_cut.specs.Known.{known_in}
use Rattle.rapid_cut.specs.Listed.{masks_at, StandsAt}
use Rattle.rapid_cut.specs.Many.{entries_of}
use Rattle.rapid_cut.proofs.Masks.{takes_some, takes_absent, takes_behind}
use Rattle.rapid_cut.proofs.Listed.{put_at, in_front, past}
use Rattle.rapid_cut.proofs.reports.take_out_among.Goals as goal

stands : (c : goal.After-few-1) → StandsAt c.args.few.now.items c.args.subject.now c.in-Some.place
stands c = subst (λ es. StandsAt es c.args.subject.now c.in-Some.place) c.as_slice.ensures.value c.in-Some.ensures.found

pub returns-in-Some-clause-direct : goal.returns-in-Some-clause-direct
returns-in-Some-clause-direct c =
    let s = c.args.subject.now in
    let fs = c.args.few.now.items in
    let ms = entries_of c.args.many.now in
    takes_some (λ m. m.direct) (fs ++ ms) (set fs c.in-Some.place (c.index_mut.result.now.0, c.without.result) ++ ms) s c.index.result.now.1 c.without.result c.args.rings
    (in_front fs s c.in-Some.place c.index.result.now ms (stands c) ∙ ap (λ (x : Process × Masks). Some x.1) (sym c.index.ensures))
    (put_at fs ms s c.in-Some.place c.index_mut.result.now c.without.result c.index_mut.ensures.value (stands c))
    c.without.ensures.direct

pub returns-in-Some-many-clause-direct : goal.returns-in-Some-many-clause-direct
returns-in-Some-many-clause-direct c =
    let s = c.args.subject.now in
    let fs = c.args.few.now.items in
    let none : masks_at fs s ≡ None = ap (λ xs. masks_at xs s) (sym c.as_slice.ensures.value) ∙ c.in_default.ensures.none in
    takes_behind (λ m. m.direct) fs (entries_of c.args.many.now) c.take_out.new.self s c.args.rings.direct none
    (subst (λ xs. TakesOut s c.args.rings.direct (known_in xs).direct (known_in c.take_out.new.self).direct)
    (c.deref_mut.ensures.value ∙ ap entries_of (sym c.in-Some-many.is)) c.take_out.ensures.direct)

pub returns-in_default-many-clause-direct : goal.returns-in_default-many-clause-direct
returns-in_default-many-clause-direct c =
    let s = c.args.subject.now in
    let fs = c.args.few.now.items in
    let ms = entries_of c.args.many.now in
    let none : masks_at fs s ≡ None = ap (λ xs. masks_at xs s) (sym c.as_slice.ensures.value) ∙ c.in_default.ensures.none in
    takes_absent (λ m. m.direct) (fs ++ ms) s c.args.rings.direct (past fs s ms none ∙ ap (λ o. masks_at (entries_of o) s) c.in_default-many.is)

pub returns-in-Some-clause-all : goal.returns-in-Some-clause-all
returns-in-Some-clause-all c =
    let s = c.args.subject.now in
    let fs = c.args.few.now.items in
    let ms = entries_of c.args.many.now in
    takes_some (λ m. m.all) (fs ++ ms) (set fs c.in-Some.place (c.index_mut.result.now.0, c.without.result) ++ ms) s c.index.result.now.1 c.without.result c.args.rings
    (in_front fs s c.in-Some.place c.index.result.now ms (stands c) ∙ ap (λ (x : Process × Masks). Some x.1) (sym c.index.ensures))
    (put_at fs ms s c.in-Some.place c.index_mut.result.now c.without.result c.index_mut.ensures.value (stands c))
    c.without.ensures.all

pub returns-in-Some-many-clause-all : goal.returns-in-Some-many-clause-all
returns-in-Some-many-clause-all c =
    let s = c.args.subject.now in
    let fs = c.args.few.now.items in
    let none : masks_at fs s ≡ None = ap (λ xs. masks_at xs s) (sym c.as_slice.ensures.value) ∙ c.in_default.ensures.none in
    takes_behind (λ m. m.all) fs (entries_of c.args.many.now) c.take_out.new.self s c.args.rings.all none
    (subst (λ xs. TakesOut s c.args.rings.all (known_in xs).all (known_in c.take_out.new.self).all)
    (c.deref_mut.ensures.value ∙ ap entries_of (sym c.in-Some-many.is)) c.take_out.ensures.all)

pub returns-in_default-many-clause-all : goal.returns-in_default-many-clause-all
returns-in_default-many-clause-all c =
    let s = c.args.subject.now in
    let fs = c.args.few.now.items in
    let ms = entries_of c.args.many.now in
    let none : masks_at fs s ≡ None = ap (λ xs. masks_at xs s) (sym c.as_slice.ensures.value) ∙ c.in_default.ensures.none in
    takes_absent (λ m. m.all) (fs ++ ms) s c.args.rings.all (past fs s ms none ∙ ap (λ o. masks_at (entries_of o) s) c.in_default-many.is)
