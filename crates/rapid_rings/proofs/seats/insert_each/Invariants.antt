use Rattle.std.proofs.Common.{◌++◌, take}
use Rattle.std.specs.List.Sorted.{IsPermutation}
use Rattle.rapid_rings.specs.Seats.{PlacedAscend}
use Rattle.rapid_rings.proofs.seats.insert_each.Given as goal

abbrev pub invariant-loop-seat : goal.invariant-loop-seat
invariant-loop-seat l =
    record {
      all : IsPermutation (l.fn.seats.items ++ take l.seat-index l.more) l.seats.items;
      ascend : PlacedAscend l.seats.items;
    }
