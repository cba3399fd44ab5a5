use Rattle.std.proofs.Common.{arith, ap, length}
use Rattle.rapid_desk.specs.Notices.{Offered}
use Rattle.rapid_desk.proofs.Each.{partly_next, partly_whole}
use Rattle.rapid_desk.proofs.Following.{await_at}
use Rattle.rapid_desk.proofs.desk.offer_all.Goals as goal

pub offer-requires : goal.offer-requires
offer-requires g c =
    await_at c.args.configuration.now c.loop-outlet.outlet-index c.args.outlets.now.items c.loop-outlet.outlet-items c.outlet-item.result c.loop-outlet.invariant c.requires (omega (arith, c.loop-outlet.auto.outlet-items, c.loop-outlet-test.true))

pub loop-outlet-preserved : goal.loop-outlet-preserved
loop-outlet-preserved g c =
    partly_next (Offered c.args.configuration.now) c.loop-outlet.outlet-index c.args.outlets.now.items c.loop-outlet.outlet-items c.outlet-item.result c.offer.new.self c.loop-outlet.invariant (omega (arith, c.loop-outlet.auto.outlet-items, c.loop-outlet-test.true)) c.offer.ensures

pub returns : goal.returns
returns g c =
    partly_whole (Offered c.args.configuration.now) c.loop-outlet.outlet-index c.args.outlets.now.items c.loop-outlet.outlet-items c.args.outlets.now.len c.loop-outlet.invariant (omega (arith, c.loop-outlet.auto.outlet-items, c.loop-outlet-test.false)) (omega (arith, c.deref_mut-outlet-items.ensures.len, ap length c.deref_mut-outlet-items.ensures.value))
