use Rattle.std.proofs.Common.{sym, ◌∙◌}
use Rattle.rapid_model.specs.Tags as model
use Rattle.rapid_endpoint.proofs.TagLists.{all_from}
use Rattle.rapid_endpoint.proofs.tag_list.are_tags.Goals as goal

pub returns-then-not-is_tag : goal.returns-then-not-is_tag
returns-then-not-is_tag c =
    sym (all_from (λ t. t.now) model.is_tag c.args.tags.now c.loop-tag.tag-index _ _ c.loop-tag-test.true (sym c.is_tag.ensures ∙ c.if-not-is_tag.true)) ∙ c.loop-tag.invariant

pub loop-tag-preserved : goal.loop-tag-preserved
loop-tag-preserved c =
    sym (all_from (λ t. t.now) model.is_tag c.args.tags.now c.loop-tag.tag-index _ _ c.loop-tag-test.true (sym c.is_tag.ensures ∙ c.if-not-is_tag.false)) ∙ c.loop-tag.invariant
