use Rattle.std.proofs.Common.{◌≡◌, ◌++◌, ◌∙◌, ap, sym, subst, set, Some, None}
use Rattle.rapid_model.specs.Process.{Process}
use Rattle.rapid_cut.specs.declared.mask.Masks.{Masks}
use Rattle.rapid_cut.specs.Growing.{TakesOut}
use Rattle.rapid_cut.specs.Known.{Known, known_in}
use Rattle.rapid_cut.specs.Listed.{masks_at, StandsAt}
use Rattle.rapid_cut.specs.Many.{entries_of}
use Rattle.rapid_cut.proofs.Masks.{takes_some, takes_behind}
use Rattle.rapid_cut.proofs.Listed.{put_at, in_front}
use Rattle.rapid_cut.proofs.reports.KnownReports.take_out.Goals as goal

stands : (c : goal.After-self-1) → StandsAt c.self.inside.bare.items c.args.subject.now c.in-Some.place
stands c = subst (λ es. StandsAt es c.args.subject.now c.in-Some.place) c.as_slice.ensures.value c.in-Some.ensures.found

pub returns-in-Some-clause-direct : goal.returns-in-Some-clause-direct
returns-in-Some-clause-direct c =
    let s = c.args.subject.now in
    let es = c.self.inside.bare.items in
    let ys = c.self.inside.few.items ++ entries_of c.self.inside.many in
    let ns = set es c.in-Some.place (c.index_mut.result.now.0, c.without.result) ++ ys in
    subst (λ (r : Known). TakesOut s c.args.rings.direct r.direct (known_in ns).direct) c.self.view_is
    (takes_some (λ m. m.direct) (es ++ ys) ns s c.index.result.now.1 c.without.result c.args.rings
    (in_front es s c.in-Some.place c.index.result.now ys (stands c) ∙ ap (λ (x : Process × Masks). Some x.1) (sym c.index.ensures))
    (put_at es ys s c.in-Some.place c.index_mut.result.now c.without.result c.index_mut.ensures.value (stands c))
    c.without.ensures.direct)

pub returns-clause-direct : goal.returns-clause-direct
returns-clause-direct c =
    let s = c.args.subject.now in
    let es = c.self.inside.bare.items in
    let ys = c.self.inside.few.items ++ entries_of c.self.inside.many in
    let zs = c.take_out_among.new.few.items ++ entries_of c.take_out_among.new.many in
    let none : masks_at es s ≡ None = ap (λ xs. masks_at xs s) (sym c.as_slice.ensures.value) ∙ c.in_default.ensures.none in
    subst (λ (r : Known). TakesOut s c.args.rings.direct r.direct (known_in (es ++ zs)).direct) c.self.view_is
    (takes_behind (λ m. m.direct) es ys zs s c.args.rings.direct none c.take_out_among.ensures.direct)

pub returns-in-Some-clause-all : goal.returns-in-Some-clause-all
returns-in-Some-clause-all c =
    let s = c.args.subject.now in
    let es = c.self.inside.bare.items in
    let ys = c.self.inside.few.items ++ entries_of c.self.inside.many in
    let ns = set es c.in-Some.place (c.index_mut.result.now.0, c.without.result) ++ ys in
    subst (λ (r : Known). TakesOut s c.args.rings.all r.all (known_in ns).all) c.self.view_is
    (takes_some (λ m. m.all) (es ++ ys) ns s c.index.result.now.1 c.without.result c.args.rings
    (in_front es s c.in-Some.place c.index.result.now ys (stands c) ∙ ap (λ (x : Process × Masks). Some x.1) (sym c.index.ensures))
    (put_at es ys s c.in-Some.place c.index_mut.result.now c.without.result c.index_mut.ensures.value (stands c))
    c.without.ensures.all)

pub returns-clause-all : goal.returns-clause-all
returns-clause-all c =
    let s = c.args.subject.now in
    let es = c.self.inside.bare.items in
    let ys = c.self.inside.few.items ++ entries_of c.self.inside.many in
    let zs = c.take_out_among.new.few.items ++ entries_of c.take_out_among.new.many in
    let none : masks_at es s ≡ None = ap (λ xs. masks_at xs s) (sym c.as_slice.ensures.value) ∙ c.in_default.ensures.none in
    subst (λ (r : Known). TakesOut s c.args.rings.all r.all (known_in (es ++ zs)).all) c.self.view_is
    (takes_behind (λ m. m.all) es ys zs s c.args.rings.all none c.take_out_among.ensures.all)
