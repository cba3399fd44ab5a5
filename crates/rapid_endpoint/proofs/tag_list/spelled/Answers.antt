use Rattle.std.proofs.Common.{◌+◌, ◌++◌, map, drop, sym, ap, ◌∙◌, arith}
use Rattle.std.specs.Prelude.{flat_map}
use Rattle.std.specs.List.{list_all}
use Rattle.rapid_model.specs.Tags as model
use Rattle.rapid_model.proofs.Tags.{both_of}
use Rattle.rapid_endpoint.proofs.TagLists.{next_left, spelt_on, spelt_length}
use Rattle.rapid_endpoint.proofs.tag_list.spelled.Goals as goal

pub spell_tag-requires-clause-tag : goal.spell_tag-requires-clause-tag
spell_tag-requires-clause-tag c =
    (both_of _ _ (sym (ap (list_all model.is_tag) (next_left (λ t. t.now) c.args.tags.now c.loop-tag.tag-index _ c.loop-tag-test.true)) ∙ c.loop-tag.invariant.1)).0

pub loop-tag-preserved : goal.loop-tag-preserved
loop-tag-preserved c =
    let i = c.loop-tag.tag-index in
    let more =
    sym (ap (list_all model.is_tag) (next_left (λ t. t.now) c.args.tags.now i _ c.loop-tag-test.true))
    ∙ c.loop-tag.invariant.1 in
    let tests = both_of _ _ more in
    let long =
    spelt_length c.loop-tag.spelling c.spell_tag.new.spelling _ _ c.spell_tag.ensures tests.0 c.loop-tag.invariant.2 in (
      ap (λ l. l ++ flat_map model.tag_bytes (drop (i + 1) (map (λ t. t.now) c.args.tags.now))) c.spell_tag.ensures
          ∙ sym (spelt_on (λ t. t.now) c.args.tags.now i _ c.loop-tag.spelling c.loop-tag-test.true)
          ∙ c.loop-tag.invariant.0,
      tests.1,
      omega (arith, long),
    )
