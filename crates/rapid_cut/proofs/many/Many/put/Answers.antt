use Rattle.std.proofs.Common.{◌≡◌, ◌∙◌, ◌++◌, ◌∷◌, [], None, Some, is_some, ap, sym, subst, zip, set, slice_get, position}
use Rattle.std.proofs.lemmas.Option.{slice_get_within}
use Rattle.std.specs.Arc.{arc_value}
use Rattle.rapid_model.specs.Process.{Process, same_bytes}
use Rattle.rapid_config.proofs.Places.{in_by_place}
use Rattle.rapid_rings.proofs.Lookups.{found_member}
use Rattle.rapid_cut.specs.Listed.{masks_at, PutsMasks}
use Rattle.rapid_cut.proofs.Listed.{pushed_last}
use Rattle.rapid_cut.proofs.Zipped.{nobody, puts_there}
use Rattle.rapid_cut.proofs.many.Many.put.Goals as goal

pub push-requires : goal.push-requires
push-requires c =
    let s = c.args.subject.now in
    let ps = arc_value c.self.inside.subjects in
    let none : position (same_bytes s) ps ≡ None = ap (λ (p : Process). position (same_bytes p) ps) (sym c.as_ref.ensures) ∙ sym c.find_in.ensures.found ∙ c.in-None.is in
    ap (λ es. masks_at es c.in_ok-try_copy-in-None.field-0) (sym c.self.view_is) ∙ ap (masks_at _) c.in_ok-try_copy-in-None.ensures
    ∙ nobody ps c.self.inside.masks.items s (sym (in_by_place (same_bytes s) ps) ∙ ap is_some none)

pub returns-in-Some-clause-put : goal.returns-in-Some-clause-put
returns-in-Some-clause-put c q =
    let s = c.args.subject.now in
    let ps = arc_value c.self.inside.subjects in
    let i = c.in-Some.place in
    let at : slice_get ps i ≡ Some s = found_member ps s i (ap (λ (p : Process). position (same_bytes p) ps) (sym c.as_ref.ensures) ∙ sym c.find_in.ensures.found ∙ c.in-Some.is) in
    subst (λ es. PutsMasks s c.args.masks es (zip ps (set c.self.inside.masks.items i c.args.masks))) c.self.view_is
    (puts_there ps c.self.inside.masks.items i s c.args.masks c.self.invariant c.find_in.ensures.once at (slice_get_within ps i s at)) q

pub returns-in_ok-push-in-None-clause-put : goal.returns-in_ok-push-in-None-clause-put
returns-in_ok-push-in-None-clause-put c q =
    let s = c.args.subject.now in
    let old = c.args.self.now in
    let ps = arc_value c.self.inside.subjects in
    let none : position (same_bytes s) ps ≡ None = ap (λ (p : Process). position (same_bytes p) ps) (sym c.as_ref.ensures) ∙ sym c.find_in.ensures.found ∙ c.in-None.is in
    let lacks : masks_at old s ≡ None = ap (λ es. masks_at es s) (sym c.self.view_is) ∙ nobody ps c.self.inside.masks.items s (sym (in_by_place (same_bytes s) ps) ∙ ap is_some none) in
    ap (λ es. masks_at es q) (c.in_ok-push-in-None.ensures.pushed ∙ ap (λ (p : Process). old ++ (p, c.args.masks) ∷ []) c.in_ok-try_copy-in-None.ensures)
    ∙ pushed_last old s c.args.masks lacks q
