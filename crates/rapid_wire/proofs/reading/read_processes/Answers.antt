use Rattle.std.proofs.lemmas.Result.{err_from_is_err_and}
use Rattle.rapid_wire.specs.Reading.{process_at}
use Rattle.rapid_wire.proofs.Loops.{goes_on, ends, is_done}
use Rattle.rapid_wire.proofs.reading.read_processes.Goals as goal

pub returns-in_err-length : goal.returns-in_err-length
returns-in_err-length c =
    let p = err_from_is_err_and c.from_residual-in_err-length.result c.from_residual-in_err-length.ensures.1 in
    rw (p.1, p.2) (ends c.in_err-length.field-0.0 process_at _ _ _ _ _ c.loop-test.true c.in_err-length.ensures.value c.loop.invariant)

pub loop-preserved : goal.loop-preserved
loop-preserved c =
    goes_on process_at _ _ _ _ _ _ _ _ _ c.loop-test.true c.in_ok-length.ensures.value c.split_at.ensures.back
    c.in_ok-push.ensures.items c.loop.invariant

pub returns : goal.returns
returns c = is_done process_at _ _ _ _ _ c.loop-test.false c.loop.invariant
