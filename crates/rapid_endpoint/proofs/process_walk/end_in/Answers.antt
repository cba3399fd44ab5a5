use Rattle.std.proofs.Common.{◌≤◌, ◌-◌, [], ◌∷◌, ◌++◌, take, drop, arith}
use Rattle.std.proofs.lemmas.Result.{err_from_is_err_and}
use Rattle.rapid_endpoint.specs.ReadErrors.{fault_of}
use Rattle.rapid_endpoint.proofs.Walking.{begun, step, stopped, ended}
use Rattle.rapid_endpoint.proofs.process_walk.end_in.Goals as goal

pub loop-init : goal.loop-init
loop-init c = ([], begun c.args.count 0 c.args.bytes.now (omega arith))

pub place_behind-requires : goal.place_behind-requires
place_behind-requires c = c.loop.invariant.1.within

pub returns-in_err-next : goal.returns-in_err-next
returns-in_err-next c =
    let p = err_from_is_err_and c.from_residual.result c.from_residual.ensures.1 in
    rw (p.1, p.2) (stopped c.args.count 0 c.loop.counter c.loop.at c.args.bytes.now c.loop.invariant.0 (fault_of c.in_err-next.field-0.0) c.loop.invariant.1 c.loop-test.true c.in_err-next.ensures.read)

pub loop-preserved : goal.loop-preserved
loop-preserved c =
    let one = take (c.in_ok-next.next - c.loop.at) (drop c.loop.at c.args.bytes.now) in (
      c.loop.invariant.0 ++ one ∷ [],
      step c.args.count 0 c.loop.counter c.loop.at c.in_ok-next.next c.args.bytes.now c.loop.invariant.0 one c.loop.invariant.1 c.loop-test.true c.in_ok-next.ensures.read c.in_ok-next.ensures.within,
    )

pub returns : goal.returns
returns c =
    let done : c.args.count ≤ c.loop.counter = omega (arith, c.loop-test.false) in (
      c.loop.invariant.1.within,
      c.loop.invariant.0,
      ended c.args.count 0 c.loop.counter c.loop.at c.args.bytes.now c.loop.invariant.0 c.loop.invariant.1 done,
    )
