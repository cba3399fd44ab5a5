use Rattle.std.proofs.Common.{◌≡◌, ℕ, List, ◌∷◌, ◌++◌, flat_map}
use Rattle.rapid_endpoint.specs.TagsLeft.{tags_left}
use Rattle.rapid_text.proofs.written.append_more_tags.Given as goal

abbrev pub invariant-loop-tag : goal.invariant-loop-tag
invariant-loop-tag l =
    (said : List ℕ) × (l.output.items ≡ l.fn.output.items ++ said)
    × (said ++ flat_map (λ t. 0x2c ∷ t) (tags_left l.tag-iterator) ≡ flat_map (λ t. 0x2c ∷ t) (tags_left l.fn.tags))
