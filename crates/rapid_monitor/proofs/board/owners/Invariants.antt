use Rattle.std.proofs.Common.{◌≡◌, [], map}
use Rattle.std.specs.List.{range_with_len}
use Rattle.rapid_monitor.specs.BoardRule.{maker_at}
use Rattle.rapid_monitor.specs.Boards.{fresh_seat}
use Rattle.rapid_monitor.proofs.board.owners.Given as goal

abbrev pub invariant-loop-edge : goal.invariant-loop-edge
invariant-loop-edge l =
    record {
      of : l.maker.table_id ≡ l.initial.maker.table_id;
      next : l.maker.me ≡ (maker_at l.edge, []);
      made : l.seats.items ≡ map (fresh_seat l.initial.maker.table_id) (range_with_len 0 l.edge);
    }
