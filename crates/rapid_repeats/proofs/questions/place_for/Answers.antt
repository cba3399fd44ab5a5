use Rattle.std.proofs.Common.{◌≡◌, ◌∙◌, ℕ, ◌++◌, ◌∷◌, [], None, Some, false, sym, ap, subst, slice_get, position}
use Rattle.rapid_model.specs.Process.{Process, same_bytes, is_in}
use Rattle.rapid_rings.proofs.Lookups.{found_member}
use Rattle.rapid_repeats.specs.Askers.{StaysIn}
use Rattle.rapid_repeats.proofs.Askers.{not_there, is_new, last_there, stays_more}
use Rattle.rapid_repeats.proofs.questions.place_for.Goals as goal

pub returns-in-Some-clause-place : goal.returns-in-Some-clause-place
returns-in-Some-clause-place c =
    let who = c.as_ref.ensures ∙ c.get.ensures in
    found_member c.args.askers.now c.args.sender.now c.in-Some.place (ap (λ (p : Process). position (same_bytes p) c.args.askers.now) (sym who) ∙ sym c.find.ensures ∙ c.in-Some.is)

pub push-requires : goal.push-requires
push-requires c =
    let who = c.as_ref.ensures ∙ c.get.ensures in
    let none : position (same_bytes c.args.sender.now) c.args.askers.now ≡ None = ap (λ (p : Process). position (same_bytes p) c.args.askers.now) (sym who) ∙ sym c.find.ensures ∙ not_there c.find.result c.in_default.not-Some in
    subst (λ (p : Process). is_in c.args.askers.now p ≡ false) (sym c.in-Ok.ensures) (is_new c.args.askers.now c.args.sender.now none)
