use Rattle.std.proofs.Common.{◌≡◌, ◌++◌, ◌∙◌, [], ap, sym, subst, set, List, None}
use Rattle.rapid_model.specs.Process.{Process}
use Rattle.rapid_cut.specs.declared.mask.Masks.{Masks}
use Rattle.rapid_cut.specs.Growing.{PutsMask}
use Rattle.rapid_cut.specs.Known.{Known, known_in}
use Rattle.rapid_cut.specs.Listed.{masks_at, StandsAt, PutsMasks}
use Rattle.rapid_cut.specs.Many.{entries_of}
use Rattle.rapid_cut.proofs.Masks.{puts_in}
use Rattle.rapid_cut.proofs.Listed.{put_at, put_last, behind, moved}
use Rattle.rapid_cut.proofs.reports.KnownReports.put.Goals as goal

known_direct : (r : Known) (es ns : List (Process × Masks)) (s : Process) (m : Masks) → known_in es ≡ r → PutsMasks s m es ns → PutsMask s m.direct r.direct (known_in ns).direct
known_direct r es ns s m e at = subst (λ (k : Known). PutsMask s m.direct k.direct (known_in ns).direct) e (puts_in (λ n. n.direct) es ns s m at)

pub returns-in-Some-clause-direct : goal.returns-in-Some-clause-direct
returns-in-Some-clause-direct c =
    let s = c.args.subject.now in
    let es = c.self.inside.bare.items in
    let ys = c.self.inside.few.items ++ entries_of c.self.inside.many in
    let x = c.index_mut.result.now in
    known_direct c.args.self.now (es ++ ys) (set es c.in-Some.place (x.0, c.args.masks) ++ ys) s c.args.masks c.self.view_is
    (put_at es ys s c.in-Some.place x c.args.masks c.index_mut.ensures.value (subst (λ xs. StandsAt xs s c.in-Some.place) c.as_slice.ensures.value c.in-Some.ensures.found))

pub returns-then-branch-clause-direct : goal.returns-then-branch-clause-direct
returns-then-branch-clause-direct c =
    let s = c.args.subject.now in
    let es = c.self.inside.bare.items in
    let ys = c.self.inside.few.items ++ entries_of c.self.inside.many in
    let ns = c.put_among.new.few.items ++ entries_of c.put_among.new.many in
    known_direct c.args.self.now (es ++ ys) (es ++ ns) s c.args.masks c.self.view_is
    (behind es s c.args.masks ys ns (ap (λ xs. masks_at xs s) (sym c.as_slice.ensures.value) ∙ c.in_default.ensures.none) (c.in_ok-put_among.ensures.put c.if-branch.true))

pub returns-then-len-lt-FEW-clause-direct : goal.returns-then-len-lt-FEW-clause-direct
returns-then-len-lt-FEW-clause-direct c =
    let s = c.args.subject.now in
    let es = c.self.inside.bare.items in
    let ys = c.put_among.new.few.items ++ entries_of c.put_among.new.many in
    let ns = c.push_to.new.entries.items in
    let still = c.in_ok-put_among.ensures.kept c.if-branch.false in
    known_direct c.args.self.now (es ++ ys) (ns ++ ys) s c.args.masks (ap (λ zs. known_in (es ++ zs)) (λ i. still.0 i ++ still.1 i) ∙ c.self.view_is)
    (put_last es ys ns s c.in-Some-of.one c.args.masks c.in-Some-of.ensures.bare c.in_ok-push_to.ensures.pushed (ap (λ xs. masks_at xs s) (sym c.as_slice.ensures.value) ∙ c.in_default.ensures.none))

pub returns-then-len-lt-FEW-2-clause-direct : goal.returns-then-len-lt-FEW-2-clause-direct
returns-then-len-lt-FEW-2-clause-direct c =
    let s = c.args.subject.now in
    let es = c.self.inside.bare.items in
    let fs = c.put_among.new.few.items in
    let ms = entries_of c.put_among.new.many in
    let ns = c.push_to-then-len-lt-FEW-2.new.entries.items in
    let still = c.in_ok-put_among.ensures.kept c.if-branch.false in
    let nowhere : masks_at fs s ≡ None = ap (λ xs. masks_at xs s) still.0 ∙ (c.in_ok-put_among.ensures.none c.if-branch.false).0 in
    known_direct c.args.self.now (es ++ (fs ++ ms)) (es ++ (ns ++ ms)) s c.args.masks (ap (λ zs. known_in (es ++ zs)) (λ i. still.0 i ++ still.1 i) ∙ c.self.view_is)
    (behind es s c.args.masks (fs ++ ms) (ns ++ ms) (ap (λ xs. masks_at xs s) (sym c.as_slice.ensures.value) ∙ c.in_default.ensures.none)
    (put_last fs ms ns s c.args.kept c.args.masks c.requires c.in_ok-push_to-2.ensures.pushed nowhere))

pub returns-clause-direct : goal.returns-clause-direct
returns-clause-direct c =
    let s = c.args.subject.now in
    let es = c.self.inside.bare.items in
    let fs = c.put_among.new.few.items in
    let ms = entries_of c.put_among.new.many in
    let ns = c.in_ok-many.many.value in
    let still = c.in_ok-put_among.ensures.kept c.if-branch.false in
    let no_map : ms ≡ [] = still.1 ∙ (c.in_ok-put_among.ensures.none c.if-branch.false).1 in
    known_direct c.args.self.now (es ++ (fs ++ ms)) (c.clear.new.self.items ++ (c.clear-2.new.self.items ++ ns)) s c.args.masks (ap (λ zs. known_in (es ++ zs)) (λ i. still.0 i ++ still.1 i) ∙ c.self.view_is)
    (moved es fs ms c.clear.new.self.items c.clear-2.new.self.items ns s c.args.masks no_map c.clear.ensures.items c.clear-2.ensures.items
    (subst (λ xs. PutsMasks s c.args.masks xs ns) (λ i. c.as_slice-2.ensures.value i ++ c.as_slice-3.ensures.value i)
    (subst (λ (p : Process). PutsMasks p c.args.masks (c.as_slice-2.result.now ++ c.as_slice-3.result.now) ns) c.requires c.in_ok-many.ensures)))

known_all : (r : Known) (es ns : List (Process × Masks)) (s : Process) (m : Masks) → known_in es ≡ r → PutsMasks s m es ns → PutsMask s m.all r.all (known_in ns).all
known_all r es ns s m e at = subst (λ (k : Known). PutsMask s m.all k.all (known_in ns).all) e (puts_in (λ n. n.all) es ns s m at)

pub returns-in-Some-clause-all : goal.returns-in-Some-clause-all
returns-in-Some-clause-all c =
    let s = c.args.subject.now in
    let es = c.self.inside.bare.items in
    let ys = c.self.inside.few.items ++ entries_of c.self.inside.many in
    let x = c.index_mut.result.now in
    known_all c.args.self.now (es ++ ys) (set es c.in-Some.place (x.0, c.args.masks) ++ ys) s c.args.masks c.self.view_is
    (put_at es ys s c.in-Some.place x c.args.masks c.index_mut.ensures.value (subst (λ xs. StandsAt xs s c.in-Some.place) c.as_slice.ensures.value c.in-Some.ensures.found))

pub returns-then-branch-clause-all : goal.returns-then-branch-clause-all
returns-then-branch-clause-all c =
    let s = c.args.subject.now in
    let es = c.self.inside.bare.items in
    let ys = c.self.inside.few.items ++ entries_of c.self.inside.many in
    let ns = c.put_among.new.few.items ++ entries_of c.put_among.new.many in
    known_all c.args.self.now (es ++ ys) (es ++ ns) s c.args.masks c.self.view_is
    (behind es s c.args.masks ys ns (ap (λ xs. masks_at xs s) (sym c.as_slice.ensures.value) ∙ c.in_default.ensures.none) (c.in_ok-put_among.ensures.put c.if-branch.true))

pub returns-then-len-lt-FEW-clause-all : goal.returns-then-len-lt-FEW-clause-all
returns-then-len-lt-FEW-clause-all c =
    let s = c.args.subject.now in
    let es = c.self.inside.bare.items in
    let ys = c.put_among.new.few.items ++ entries_of c.put_among.new.many in
    let ns = c.push_to.new.entries.items in
    let still = c.in_ok-put_among.ensures.kept c.if-branch.false in
    known_all c.args.self.now (es ++ ys) (ns ++ ys) s c.args.masks (ap (λ zs. known_in (es ++ zs)) (λ i. still.0 i ++ still.1 i) ∙ c.self.view_is)
    (put_last es ys ns s c.in-Some-of.one c.args.masks c.in-Some-of.ensures.bare c.in_ok-push_to.ensures.pushed (ap (λ xs. masks_at xs s) (sym c.as_slice.ensures.value) ∙ c.in_default.ensures.none))

pub returns-then-len-lt-FEW-2-clause-all : goal.returns-then-len-lt-FEW-2-clause-all
returns-then-len-lt-FEW-2-clause-all c =
    let s = c.args.subject.now in
    let es = c.self.inside.bare.items in
    let fs = c.put_among.new.few.items in
    let ms = entries_of c.put_among.new.many in
    let ns = c.push_to-then-len-lt-FEW-2.new.entries.items in
    let still = c.in_ok-put_among.ensures.kept c.if-branch.false in
    let nowhere : masks_at fs s ≡ None = ap (λ xs. masks_at xs s) still.0 ∙ (c.in_ok-put_among.ensures.none c.if-branch.false).0 in
    known_all c.args.self.now (es ++ (fs ++ ms)) (es ++ (ns ++ ms)) s c.args.masks (ap (λ zs. known_in (es ++ zs)) (λ i. still.0 i ++ still.1 i) ∙ c.self.view_is)
    (behind es s c.args.masks (fs ++ ms) (ns ++ ms) (ap (λ xs. masks_at xs s) (sym c.as_slice.ensures.value) ∙ c.in_default.ensures.none)
    (put_last fs ms ns s c.args.kept c.args.masks c.requires c.in_ok-push_to-2.ensures.pushed nowhere))

pub returns-clause-all : goal.returns-clause-all
returns-clause-all c =
    let s = c.args.subject.now in
    let es = c.self.inside.bare.items in
    let fs = c.put_among.new.few.items in
    let ms = entries_of c.put_among.new.many in
    let ns = c.in_ok-many.many.value in
    let still = c.in_ok-put_among.ensures.kept c.if-branch.false in
    let no_map : ms ≡ [] = still.1 ∙ (c.in_ok-put_among.ensures.none c.if-branch.false).1 in
    known_all c.args.self.now (es ++ (fs ++ ms)) (c.clear.new.self.items ++ (c.clear-2.new.self.items ++ ns)) s c.args.masks (ap (λ zs. known_in (es ++ zs)) (λ i. still.0 i ++ still.1 i) ∙ c.self.view_is)
    (moved es fs ms c.clear.new.self.items c.clear-2.new.self.items ns s c.args.masks no_map c.clear.ensures.items c.clear-2.ensures.items
    (subst (λ xs. PutsMasks s c.args.masks xs ns) (λ i. c.as_slice-2.ensures.value i ++ c.as_slice-3.ensures.value i)
    (subst (λ (p : Process). PutsMasks p c.args.masks (c.as_slice-2.result.now ++ c.as_slice-3.result.now) ns) c.requires c.in_ok-many.ensures)))
