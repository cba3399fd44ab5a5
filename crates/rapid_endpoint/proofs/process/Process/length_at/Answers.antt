use Rattle.std.proofs.Common.{◌≤◌, length, arith}
use Rattle.std.proofs.lemmas.Result.{err_from_is_err_and}
use Rattle.rapid_endpoint.specs.ReadErrors.{fault_of}
use Rattle.rapid_endpoint.proofs.Keys.{too_short, refused_of, length_of, no_more_behind, front_is_process}
use Rattle.rapid_endpoint.proofs.process.Process.length_at.Goals as goal

pub returns-then-bytes-lt-KEY_LENGTH-clause-read : goal.returns-then-bytes-lt-KEY_LENGTH-clause-read
returns-then-bytes-lt-KEY_LENGTH-clause-read c = too_short c.args.bytes.now (omega (arith, c.if-bytes-lt-KEY_LENGTH.true))

pub returns-in_err-rest-clause-read : goal.returns-in_err-rest-clause-read
returns-in_err-rest-clause-read c =
    let p = err_from_is_err_and c.from_residual.result c.from_residual.ensures.1 in
    let long : 22 ≤ length c.args.bytes.now = omega (arith, c.if-bytes-lt-KEY_LENGTH.false) in
    rw (p.1, p.2) (refused_of c.args.bytes.now (fault_of c.in_err-rest.field-0.0) long c.in_err-rest.ensures)

pub overflow_sub-result : goal.overflow_sub-result
overflow_sub-result c =
    let long : 22 ≤ length c.args.bytes.now = omega (arith, c.if-bytes-lt-KEY_LENGTH.false) in
    no_more_behind c.args.bytes.now c.in_ok-rest.rest.now long c.in_ok-rest.ensures

pub returns-clause-read : goal.returns-clause-read
returns-clause-read c =
    let long : 22 ≤ length c.args.bytes.now = omega (arith, c.if-bytes-lt-KEY_LENGTH.false) in
    length_of c.args.bytes.now c.in_ok-rest.rest.now long c.in_ok-rest.ensures

pub returns-clause-process : goal.returns-clause-process
returns-clause-process c =
    let long : 22 ≤ length c.args.bytes.now = omega (arith, c.if-bytes-lt-KEY_LENGTH.false) in
    front_is_process c.args.bytes.now _ c.tell.ensures (length_of c.args.bytes.now c.in_ok-rest.rest.now long c.in_ok-rest.ensures)
