use Rattle.std.proofs.Common.{◌≤◌, length, map, sym, ◌∙◌, arith}
use Rattle.std.proofs.lemmas.List.{length-map}
use Rattle.rapid_model.specs.Tags.{most_tags}
use Rattle.rapid_endpoint.proofs.TagLists.{are_tags, hold_tags}
use Rattle.rapid_endpoint.proofs.tags.Tags.new.Goals as goal

pub invariant_of-result : goal.invariant_of-result
invariant_of-result c =
    let ts = map (λ t. t.now) c.args.tags.now in
    let few : length ts ≤ most_tags =
    omega (arith, length-map c.args.tags.now (λ t. t.now), c.if-tags-gt-MOST.false) in
    hold_tags ts c.spelled.result
    (are_tags ts c.spelled.result few (sym c.are_tags.ensures ∙ c.if-not-are_tags.false) (sym c.ascend.ensures ∙ c.if-not-ascend.false) c.spelled.ensures)
