use Rattle.std.proofs.Common.{◌≡◌, ℕ, List, ◌<◌, length, get_or}
use Rattle.rapid_rings.specs.Seats.{Placed, IsOrder}
use Rattle.rapid_rings.proofs.rings.Rings.new.Given as goal

abbrev pub invariant-loop-number : goal.invariant-loop-number
invariant-loop-number l =
    record {
      count : length l.rings.items ≡ l.number;
      orders : (k : ℕ) (d : List Placed) → k < length l.rings.items → IsOrder k l.configuration.members (get_or l.rings.items k d);
    }
