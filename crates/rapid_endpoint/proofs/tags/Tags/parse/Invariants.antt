use Rattle.std.proofs.Common.{◌≡◌, ◌++◌, map, take, length}
use Rattle.rapid_endpoint.specs.Texts.{between_commas}
use Rattle.rapid_endpoint.proofs.tags.Tags.parse.Given as goal

abbrev pub invariant-loop-count : goal.invariant-loop-count
invariant-loop-count l =
    (length l.words ≡ 8)
    × (map (λ word. word.now) (take l.count l.words) ++ between_commas l.rest ≡ between_commas l.text)
