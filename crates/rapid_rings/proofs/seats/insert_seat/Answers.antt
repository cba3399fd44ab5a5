use Rattle.std.proofs.Common.{rules, of_calls, subst, sym}
use Rattle.std.specs.Ordering.{is_lt}
use Rattle.std.proofs.lemmas.Fn.{always_returns_same}
use Rattle.rapid_rings.specs.Seats.{placed_cmp, PlacedAscend}
use Rattle.rapid_rings.proofs.Edits.{inserted_ascends, inserted_there, below_first}
use Rattle.rapid_rings.proofs.seats.insert_seat.Goals as goal

pub returns-clause-all : goal.returns-clause-all
returns-clause-all c = inserted_there c.args.seats.now.items c.insert.new.self.items c.args.seat c.partition_point-place.result c.in_ok-insert.ensures.items

pub returns-clause-ascend : goal.returns-clause-ascend
returns-clause-ascend c =
    let xs = c.as_slice.result.now in
    let up : PlacedAscend xs = subst PlacedAscend (sym c.as_slice.ensures.value) c.requires in
    let point = c.partition_point-place.ensures.partitioned (λ y. is_lt (placed_cmp y c.args.seat)) (always_returns_same _ _ _ (λ a r f k. search (rules, of_calls))) (below_first xs c.args.seat up) in
    rw (c.in_ok-insert.ensures.items, ← c.as_slice.ensures.value) (inserted_ascends xs c.args.seat c.partition_point-place.result up c.partition_point-place.ensures.bound point)
