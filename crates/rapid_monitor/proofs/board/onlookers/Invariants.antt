use Rattle.std.proofs.Common.{◌≡◌, vec_len}
use Rattle.std.specs.Prelude.{All}
use Rattle.rapid_monitor.specs.Boards.{fresh_watcher}
use Rattle.rapid_monitor.proofs.board.onlookers.Given as goal

abbrev pub invariant-loop : goal.invariant-loop
invariant-loop l =
    record {
      of : l.maker.table_id ≡ l.initial.maker.table_id;
      same : l.maker.me ≡ l.initial.maker.me;
      many : vec_len l.boards ≡ l.counter;
      fresh : All (λ b. b ≡ fresh_watcher l.initial.maker.table_id l.edges) l.boards.items;
    }
