use Rattle.std.proofs.Common.{◌≡◌, ◌∙◌, ap, sym, Some, is_some, zip, slice_get}
use Rattle.std.proofs.lemmas.Option.{slice_get_within}
use Rattle.std.specs.Arc.{arc_value}
use Rattle.rapid_model.specs.Process.{Process, same_bytes}
use Rattle.rapid_config.proofs.Places.{in_by_place}
use Rattle.rapid_rings.proofs.Lookups.{found_member}
use Rattle.rapid_cut.specs.declared.mask.Masks.{Masks}
use Rattle.rapid_cut.specs.Listed.{masks_at}
use Rattle.rapid_cut.proofs.Listed.{found_at}
use Rattle.rapid_cut.proofs.Zipped.{stands, nobody, masks_there}
use Rattle.rapid_cut.proofs.many.Many.masks_of.Goals as goal

pub returns-in-Some : goal.returns-in-Some
returns-in-Some c =
    let s = c.args.subject.now in
    let ps = arc_value c.self.inside.subjects in
    let ms = c.self.inside.masks.items in
    let i = c.in-Some.place in
    let m = c.index.result.now in
    let d : Process × Masks = (s, m) in
    let at : slice_get ps i ≡ Some s = found_member ps s i (sym c.find_in.ensures.found ∙ c.in-Some.is) in
    ap Some (c.index.ensures ∙ sym (masks_there ps ms i d m c.self.invariant (slice_get_within ps i s at)))
    ∙ sym (found_at (zip ps ms) s i d (stands ps ms i s c.self.invariant c.find_in.ensures.once at))
    ∙ ap (λ es. masks_at es s) c.self.view_is

pub returns-in-None : goal.returns-in-None
returns-in-None c =
    let s = c.args.subject.now in
    let ps = arc_value c.self.inside.subjects in
    sym (nobody ps c.self.inside.masks.items s (sym (in_by_place (same_bytes s) ps) ∙ ap is_some (sym c.find_in.ensures.found ∙ c.in-None.is)))
    ∙ ap (λ es. masks_at es s) c.self.view_is
