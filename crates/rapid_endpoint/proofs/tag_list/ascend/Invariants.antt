use Rattle.std.proofs.Common.{◌≡◌, map, drop}
use Rattle.rapid_model.specs.Tags as model
use Rattle.rapid_endpoint.proofs.tag_list.ascend.Given as goal

abbrev pub invariant-loop-tag : goal.invariant-loop-tag
invariant-loop-tag l = model.ascend_from l.before (drop l.tag-index (map (λ t. t.now) l.tags)) ≡ model.tags_ascend (map (λ t. t.now) l.tags)
