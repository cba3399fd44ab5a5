use Rattle.std.proofs.Common.{rules, of_calls}
use Rattle.std.proofs.lemmas.Fn.{always_returns_same}
use Rattle.rapid_rings.specs.Seats.{Seat, member_below}
use Rattle.rapid_rings.proofs.Orders.{below_first}
use Rattle.rapid_rings.proofs.ring.Ring.count_below.Goals as goal

pub returns-clause-point : goal.returns-clause-point
returns-clause-point c =
    let ms = c.args.members.now in
    let s : Seat = (c.args.key.now, c.args.process.now) in
    let k = c.requires.order.0 in
    let order = c.requires.order.1 in
    rw (← c.self.view_is, ← c.as_slice-seats.ensures.value)
    (c.partition_point.ensures.partitioned (λ x. member_below ms s x) (always_returns_same _ _ _ (λ a r f k. search (rules, of_calls)))
    (rw (c.as_slice-seats.ensures.value, c.self.view_is) (below_first k ms c.args.self.now s order)))
