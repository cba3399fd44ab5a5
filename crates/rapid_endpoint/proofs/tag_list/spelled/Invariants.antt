use Rattle.std.proofs.Common.{◌≡◌, ◌+◌, ◌*◌, ◌≤◌, ◌++◌, length, map, drop, true}
use Rattle.std.specs.Prelude.{flat_map}
use Rattle.std.specs.List.{list_all}
use Rattle.rapid_model.specs.Tags as model
use Rattle.rapid_endpoint.proofs.tag_list.spelled.Given as goal

abbrev pub invariant-loop-tag : goal.invariant-loop-tag
invariant-loop-tag l =
    (l.spelling ++ flat_map model.tag_bytes (drop l.tag-index (map (λ t. t.now) l.tags)) ≡ model.tags_bytes (map (λ t. t.now) l.tags))
    × (list_all model.is_tag (drop l.tag-index (map (λ t. t.now) l.tags)) ≡ true)
    × (length l.spelling ≤ 1 + 65 * l.tag-index)
