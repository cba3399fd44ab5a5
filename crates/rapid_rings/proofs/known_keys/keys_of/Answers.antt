use Rattle.std.proofs.Common.{ℕ, List, [], ◌∷◌, ◌++◌, ap, sym, ◌∙◌}
use Rattle.rapid_model.specs.Ring.{ring_key}
use Rattle.rapid_rings.proofs.Kept.{map_more}
use Rattle.rapid_rings.proofs.known_keys.keys_of.Goals as goal

pub loop-ring-preserved : goal.loop-ring-preserved
loop-ring-preserved c =
    let by_ring : ℕ → List ℕ = λ k. ring_key k c.args.process.now in
    c.in_ok-push.ensures.items
    ∙ ap (λ (key : List ℕ). c.loop-ring.keys.items ++ key ∷ []) c.ring_key.ensures
    ∙ ap (λ (keys : List (List ℕ)). keys ++ by_ring c.loop-ring.ring ∷ []) c.loop-ring.invariant
    ∙ sym (map_more by_ring c.loop-ring.ring)
