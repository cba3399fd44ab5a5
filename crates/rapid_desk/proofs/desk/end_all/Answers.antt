use Rattle.std.proofs.Common.{arith, ap, length}
use Rattle.rapid_desk.specs.Notices.{Ended}
use Rattle.rapid_desk.proofs.Each.{partly_next, partly_whole}
use Rattle.rapid_desk.proofs.desk.end_all.Goals as goal

pub loop-outlet-preserved : goal.loop-outlet-preserved
loop-outlet-preserved g c =
    partly_next Ended c.loop-outlet.outlet-index c.args.outlets.now.items c.loop-outlet.outlet-items c.outlet-item.result c.close.new.self c.loop-outlet.invariant (omega (arith, c.loop-outlet.auto.outlet-items, c.loop-outlet-test.true)) c.close.ensures

pub returns : goal.returns
returns g c =
    partly_whole Ended c.loop-outlet.outlet-index c.args.outlets.now.items c.loop-outlet.outlet-items c.args.outlets.now.len c.loop-outlet.invariant (omega (arith, c.loop-outlet.auto.outlet-items, c.loop-outlet-test.false)) (omega (arith, c.deref_mut-outlet-items.ensures.len, ap length c.deref_mut-outlet-items.ensures.value))
