use Rattle.std.proofs.Common.{◌≡◌, map, drop}
use Rattle.std.specs.List.{list_all}
use Rattle.rapid_model.specs.Tags as model
use Rattle.rapid_endpoint.proofs.tag_list.are_tags.Given as goal

abbrev pub invariant-loop-tag : goal.invariant-loop-tag
invariant-loop-tag l = list_all model.is_tag (drop l.tag-index (map (λ t. t.now) l.tags)) ≡ list_all model.is_tag (map (λ t. t.now) l.tags)
