use Rattle.std.proofs.Common.{sym, subst, ◌<◌, length, All}
use Rattle.rapid_rings.specs.Seats.{IsOrder}
use Rattle.rapid_rings.proofs.Arrivals.{order_of_all, range_below}
use Rattle.rapid_rings.proofs.Following.{if_ok}
use Rattle.rapid_rings.proofs.ring.Ring.new.Goals as goal

pub seats_at-requires : goal.seats_at-requires
seats_at-requires c = subst (λ ps. All (λ p. p < length c.args.members.now) ps) (sym c.requires.all) (range_below (length c.args.members.now))

pub ranked-requires : goal.ranked-requires
ranked-requires c =
    (order_of_all c.args.number c.args.members.now c.args.places.now c.in_ok-seats.seats.items c.sort_unstable.new.self.items c.requires.ascend c.requires.all c.in_ok-seats.ensures
    c.sort_unstable.ensures.permutation c.sort_unstable.ensures.sorted).places

pub returns : goal.returns
returns c =
    if_ok c.ranked.result (λ ring is. subst (IsOrder c.args.number c.args.members.now) (sym is)
    (order_of_all c.args.number c.args.members.now c.args.places.now c.in_ok-seats.seats.items c.sort_unstable.new.self.items c.requires.ascend c.requires.all c.in_ok-seats.ensures
    c.sort_unstable.ensures.permutation c.sort_unstable.ensures.sorted)) c.ranked.ensures
