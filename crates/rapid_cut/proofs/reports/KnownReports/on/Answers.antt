use Rattle.std.proofs.Common.{◌≡◌, ◌++◌, ap, ◌∙◌, sym, refl, subst, List, Option}
use Rattle.std.specs.Option.{unwrap_or}
use Rattle.std.specs.FinSet as set
use Rattle.rapid_model.specs.Process.{Process}
use Rattle.rapid_cut.specs.declared.mask.Masks.{Masks}
use Rattle.rapid_cut.specs.Known.{Known}
use Rattle.rapid_cut.specs.Listed.{masks_at, StandsAt}
use Rattle.rapid_cut.specs.Many.{entries_of}
use Rattle.rapid_cut.proofs.Masks.{seen_part}
use Rattle.rapid_cut.proofs.Listed.{in_front, past}
use Rattle.rapid_cut.proofs.reports.KnownReports.on.Goals.{After-unwrap_or}
use Rattle.rapid_cut.proofs.reports.KnownReports.on.Goals as goal

abbrev no_ring : Masks
no_ring = record { direct = 0; all = 0 }

listed : (c : goal.After-result-1) → c.index.result.now.1 ≡ unwrap_or (masks_at (c.self.inside.bare.items ++ (c.self.inside.few.items ++ entries_of c.self.inside.many)) c.args.subject.now) no_ring
listed c =
    ap (λ (x : Process × Masks). x.1) c.index.ensures
    ∙ ap (λ (o : Option Masks). unwrap_or o no_ring) (sym (in_front c.self.inside.bare.items c.args.subject.now c.in-Some.place c.index.result.now (c.self.inside.few.items ++ entries_of c.self.inside.many)
    (subst (λ es. StandsAt es c.args.subject.now c.in-Some.place) c.as_slice.ensures.value c.in-Some.ensures.found)))

among_others : (c : After-unwrap_or) → c.unwrap_or.result ≡ unwrap_or (masks_at (c.self.inside.bare.items ++ (c.self.inside.few.items ++ entries_of c.self.inside.many)) c.args.subject.now) no_ring
among_others c =
    let s = c.args.subject.now in
    c.unwrap_or.ensures
    ∙ ap (λ (o : Option Masks). unwrap_or o no_ring)
    (c.masks_among.ensures ∙ ap (λ (fs : List (Process × Masks)). masks_at (fs ++ entries_of c.self.inside.many) s) c.as_slice-2.ensures.value
    ∙ sym (past c.self.inside.bare.items s (c.self.inside.few.items ++ entries_of c.self.inside.many) (ap (λ es. masks_at es s) (sym c.as_slice.ensures.value) ∙ c.in_default.ensures.none)))

pub returns-in-Some-clause-direct : goal.returns-in-Some-clause-direct
returns-in-Some-clause-direct c k =
    ap (λ (r : Known). set.contains r.direct (c.args.subject.now, k)) (sym c.self.view_is)
    ∙ seen_part (λ m. m.direct) (c.self.inside.bare.items ++ (c.self.inside.few.items ++ entries_of c.self.inside.many)) c.args.subject.now no_ring c.index.result.now.1 k refl (listed c)

pub returns-clause-direct : goal.returns-clause-direct
returns-clause-direct c k =
    ap (λ (r : Known). set.contains r.direct (c.args.subject.now, k)) (sym c.self.view_is)
    ∙ seen_part (λ m. m.direct) (c.self.inside.bare.items ++ (c.self.inside.few.items ++ entries_of c.self.inside.many)) c.args.subject.now no_ring c.unwrap_or.result k refl (among_others c)

pub returns-in-Some-clause-all : goal.returns-in-Some-clause-all
returns-in-Some-clause-all c k =
    ap (λ (r : Known). set.contains r.all (c.args.subject.now, k)) (sym c.self.view_is)
    ∙ seen_part (λ m. m.all) (c.self.inside.bare.items ++ (c.self.inside.few.items ++ entries_of c.self.inside.many)) c.args.subject.now no_ring c.index.result.now.1 k refl (listed c)

pub returns-clause-all : goal.returns-clause-all
returns-clause-all c k =
    ap (λ (r : Known). set.contains r.all (c.args.subject.now, k)) (sym c.self.view_is)
    ∙ seen_part (λ m. m.all) (c.self.inside.bare.items ++ (c.self.inside.few.items ++ entries_of c.self.inside.many)) c.args.subject.now no_ring c.unwrap_or.result k refl (among_others c)
