use Rattle.std.proofs.Common.{◌≤◌, ◌<◌, length, ◌∙◌, length-set, arith}
use Rattle.rapid_endpoint.proofs.Commas.{one_more, nine, too_many}
use Rattle.rapid_endpoint.proofs.tags.Tags.parse.Goals as goal

pub loop-count-preserved : goal.loop-count-preserved
loop-count-preserved c =
    let within : c.loop-count.count < length c.loop-count.words = omega (arith, c.loop-count.invariant.0, c.loop-count-test.true) in (
      length-set c.loop-count.words c.loop-count.count _ ∙ c.loop-count.invariant.0,
      one_more (λ word. word.now) c.loop-count.words c.loop-count.count _ c.loop-count.rest.now c.in-Some.others.now c.args.text.now within c.in-Some.ensures c.loop-count.invariant.1,
    )

pub returns-clause-value : goal.returns-clause-value
returns-clause-value c =
    let most : 8 ≤ c.loop-count.count = omega (arith, c.loop-count-test.false) in
    too_many _
    (nine (λ word. word.now) c.loop-count.words c.loop-count.count c.loop-count.rest.now c.args.text.now c.loop-count.invariant.0 most c.loop-count.auto.count-end c.loop-count.invariant.1)
