use Rattle.std.proofs.Common.{◌≡◌, ◌∙◌, ap, sym, Some, is_some, zip, set, slice_get, subst}
use Rattle.std.proofs.lemmas.Option.{slice_get_within}
use Rattle.std.specs.Arc.{arc_value}
use Rattle.rapid_model.specs.Process.{Process, same_bytes}
use Rattle.rapid_config.proofs.Places.{in_by_place}
use Rattle.rapid_rings.proofs.Lookups.{found_member}
use Rattle.rapid_cut.specs.declared.mask.Masks.{Masks}
use Rattle.rapid_cut.specs.Growing.{TakesOut}
use Rattle.rapid_cut.specs.Known.{known_in}
use Rattle.rapid_cut.specs.Listed.{masks_at}
use Rattle.rapid_cut.proofs.Listed.{found_at}
use Rattle.rapid_cut.proofs.Masks.{takes_some, takes_absent}
use Rattle.rapid_cut.proofs.Zipped.{stands, nobody, masks_there, puts_there}
use Rattle.rapid_cut.proofs.many.Many.take_out.Goals as goal

pub returns-in-Some-clause-direct : goal.returns-in-Some-clause-direct
returns-in-Some-clause-direct c =
    let s = c.args.subject.now in
    let ps = arc_value c.self.inside.subjects in
    let ms = c.self.inside.masks.items in
    let i = c.in-Some.place in
    let m = c.index.result.now in
    let less = c.without.result in
    let d : Process × Masks = (s, m) in
    let at : slice_get ps i ≡ Some s = found_member ps s i (sym c.find_in.ensures.found ∙ c.in-Some.is) in
    let within = slice_get_within ps i s at in
    let has : masks_at (zip ps ms) s ≡ Some m = found_at (zip ps ms) s i d (stands ps ms i s c.self.invariant c.find_in.ensures.once at) ∙ ap Some (masks_there ps ms i d m c.self.invariant within ∙ sym c.index.ensures) in
    subst (λ es. TakesOut s c.args.rings.direct (known_in es).direct (known_in (zip ps (set ms i less))).direct) c.self.view_is
    (takes_some (λ n. n.direct) (zip ps ms) (zip ps (set ms i less)) s m less c.args.rings has (puts_there ps ms i s less c.self.invariant c.find_in.ensures.once at within) c.without.ensures.direct)

pub returns-in-None-clause-direct : goal.returns-in-None-clause-direct
returns-in-None-clause-direct c =
    let s = c.args.subject.now in
    let ps = arc_value c.self.inside.subjects in
    let lacks = nobody ps c.self.inside.masks.items s (sym (in_by_place (same_bytes s) ps) ∙ ap is_some (sym c.find_in.ensures.found ∙ c.in-None.is)) in
    takes_absent (λ n. n.direct) c.args.self.now s c.args.rings.direct (ap (λ es. masks_at es s) (sym c.self.view_is) ∙ lacks)

pub returns-in-Some-clause-all : goal.returns-in-Some-clause-all
returns-in-Some-clause-all c =
    let s = c.args.subject.now in
    let ps = arc_value c.self.inside.subjects in
    let ms = c.self.inside.masks.items in
    let i = c.in-Some.place in
    let m = c.index.result.now in
    let less = c.without.result in
    let d : Process × Masks = (s, m) in
    let at : slice_get ps i ≡ Some s = found_member ps s i (sym c.find_in.ensures.found ∙ c.in-Some.is) in
    let within = slice_get_within ps i s at in
    let has : masks_at (zip ps ms) s ≡ Some m = found_at (zip ps ms) s i d (stands ps ms i s c.self.invariant c.find_in.ensures.once at) ∙ ap Some (masks_there ps ms i d m c.self.invariant within ∙ sym c.index.ensures) in
    subst (λ es. TakesOut s c.args.rings.all (known_in es).all (known_in (zip ps (set ms i less))).all) c.self.view_is
    (takes_some (λ n. n.all) (zip ps ms) (zip ps (set ms i less)) s m less c.args.rings has (puts_there ps ms i s less c.self.invariant c.find_in.ensures.once at within) c.without.ensures.all)

pub returns-in-None-clause-all : goal.returns-in-None-clause-all
returns-in-None-clause-all c =
    let s = c.args.subject.now in
    let ps = arc_value c.self.inside.subjects in
    let lacks = nobody ps c.self.inside.masks.items s (sym (in_by_place (same_bytes s) ps) ∙ ap is_some (sym c.find_in.ensures.found ∙ c.in-None.is)) in
    takes_absent (λ n. n.all) c.args.self.now s c.args.rings.all (ap (λ es. masks_at es s) (sym c.self.view_is) ∙ lacks)
