use Rattle.std.proofs.Common.{◌≡◌, length}
use Rattle.rapid_rings.proofs.Orders.{Noted}
use Rattle.rapid_rings.proofs.ring.ranked.Given as goal

abbrev pub invariant-loop-rank : goal.invariant-loop-rank
invariant-loop-rank l =
    record {
      long : length l.ranks.items ≡ l.count;
      noted : Noted l.seats.items l.ranks.items l.rank;
    }
