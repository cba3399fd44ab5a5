use Rattle.std.proofs.Common.{ℕ, List, [], ◌∷◌, ◌++◌, cond, get_or, ap, sym, ◌∙◌}
use Rattle.std.specs.Prelude.{is_some}
use Rattle.rapid_model.specs.Process.{same_bytes, is_in}
use Rattle.rapid_config.proofs.Places.{in_by_place}
use Rattle.rapid_rings.proofs.Following.{left_more}
use Rattle.rapid_rings.proofs.places.places_of_strangers.Goals as goal

pub loop-place-preserved : goal.loop-place-preserved
loop-place-preserved c =
    let old = c.args.configuration.now.members in
    let ps = c.args.processes.now in
    let i = c.loop-place.place in
    c.in_ok-push_unless.ensures
    ∙ ap (λ b. cond b c.loop-place.strangers.items (c.loop-place.strangers.items ++ i ∷ []))
    (c.is_some.ensures ∙ ap is_some c.place_before-known.ensures ∙ in_by_place (same_bytes (get_or ps i [])) old)
    ∙ ap (λ (xs : List ℕ). cond (is_in old (get_or ps i [])) xs (xs ++ i ∷ [])) c.loop-place.invariant
    ∙ sym (left_more (λ j. is_in old (get_or ps j [])) i)
