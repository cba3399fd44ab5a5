use Rattle.std.proofs.lemmas.Result.{err_from_is_err_and}
use Rattle.rapid_endpoint.specs.ReadErrors.{fault_of}
use Rattle.rapid_endpoint.proofs.TagReading.{goes_on, ends, is_done}
use Rattle.rapid_endpoint.proofs.tag_reading.read_some.Goals as goal

pub returns-in_err-tag : goal.returns-in_err-tag
returns-in_err-tag c =
    let p = err_from_is_err_and c.from_residual.result c.from_residual.ensures.1 in
    rw (p.1, p.2) (ends c.args.count c.loop.counter c.loop.before.now c.loop.rest.now (fault_of c.in_err-tag.field-0.0) _ c.loop-test.true c.in_err-tag.ensures c.loop.invariant)

pub loop-preserved : goal.loop-preserved
loop-preserved c = goes_on c.args.count c.loop.counter c.loop.before.now c.in_ok-tag.tag.now c.loop.rest.now c.in_ok-tag.after.now _ c.loop-test.true c.in_ok-tag.ensures c.loop.invariant

pub returns : goal.returns
returns c = is_done c.args.count c.loop.counter c.loop.before.now c.loop.rest.now _ c.loop-test.false c.loop.invariant
