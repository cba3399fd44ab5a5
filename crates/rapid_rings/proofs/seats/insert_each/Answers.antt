use Rattle.std.proofs.Common.{◌<◌, length, sym, subst, ◌++◌, List, arith}
use Rattle.std.specs.List.Sorted.{IsPermutation}
use Rattle.std.proofs.lemmas.List.{take_all, append-nil, get_or_default}
use Rattle.std.proofs.lemmas.List.Sorted.{IsPermutation-refl}
use Rattle.rapid_rings.specs.Seats.{Placed}
use Rattle.rapid_rings.proofs.Edits.{permuted_more}
use Rattle.rapid_rings.proofs.seats.insert_each.Goals as goal

pub loop-seat-init : goal.loop-seat-init
loop-seat-init c =
    record {
      all = subst (λ (xs : List Placed). IsPermutation xs c.args.seats.now.items) (sym (append-nil c.args.seats.now.items)) (IsPermutation-refl c.args.seats.now.items);
      ascend = c.requires;
    }

pub loop-seat-preserved : goal.loop-seat-preserved
loop-seat-preserved c =
    let below : c.loop-seat.seat-index < length c.args.more.now = omega (arith, c.loop-seat-test.true) in
    record {
      all = permuted_more c.args.seats.now.items c.args.more.now c.loop-seat.seats.items c.insert_seat.new.seats.items c.loop-seat.seat-index _ below (get_or_default c.args.more.now c.loop-seat.seat-index _ _ below) c.loop-seat.invariant.all c.in_ok-insert_seat.ensures.all;
      ascend = c.in_ok-insert_seat.ensures.ascend;
    }

pub returns-clause-all : goal.returns-clause-all
returns-clause-all c =
    subst (λ (xs : List Placed). IsPermutation (c.args.seats.now.items ++ xs) c.loop-seat.seats.items) (take_all c.loop-seat.seat-index c.args.more.now c.loop-seat-test.false) c.loop-seat.invariant.all
