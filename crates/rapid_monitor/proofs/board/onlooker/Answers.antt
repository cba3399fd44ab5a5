use Rattle.std.proofs.Common.{◌∙◌, ap, sym, arith}
use Rattle.rapid_monitor.proofs.Moves.{watchers}
use Rattle.rapid_monitor.proofs.board.onlooker.Goals as goal

pub split_seat-seat-requires : goal.split_seat-seat-requires
split_seat-seat-requires c =
    let at = ap (λ t. t.shared) c.deref.ensures in
    (c.requires.own ∙ sym (ap (λ t. t.table_id) at), omega (arith, ap (λ t. t.table_id.words) at, c.requires.words.0, c.requires.words.1, c.requires.words.2), watchers _ _ _)
