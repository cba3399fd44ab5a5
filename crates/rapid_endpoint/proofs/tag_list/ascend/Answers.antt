use Rattle.std.proofs.Common.{sym, ◌∙◌}
use Rattle.rapid_endpoint.proofs.TagLists.{ascend_on}
use Rattle.rapid_endpoint.proofs.tag_list.ascend.Goals as goal

pub returns-then-not-is_below : goal.returns-then-not-is_below
returns-then-not-is_below c =
    sym (ascend_on (λ t. t.now) c.args.tags.now c.loop-tag.tag-index _ c.loop-tag.before.now _ c.loop-tag-test.true (sym c.is_below.ensures ∙ c.if-not-is_below.true)) ∙ c.loop-tag.invariant

pub loop-tag-preserved : goal.loop-tag-preserved
loop-tag-preserved c =
    sym (ascend_on (λ t. t.now) c.args.tags.now c.loop-tag.tag-index _ c.loop-tag.before.now _ c.loop-tag-test.true (sym c.is_below.ensures ∙ c.if-not-is_below.false)) ∙ c.loop-tag.invariant
