use Rattle.std.proofs.Common.{◌∙◌, ◌<◌, ◌≤◌, ap, sym, subst, arith, length}
use Rattle.rapid_model.specs.PublishedList.{HeightsRise}
use Rattle.rapid_view.specs.CellRule.{place}
use Rattle.rapid_view.proofs.Moves.{tells}
use Rattle.rapid_view.proofs.stamp_reader.StampReader.of_writer.Goals as goal

pub split_seat-seat-requires : goal.split_seat-seat-requires
split_seat-seat-requires c =
    (c.requires.own ∙ sym (ap (λ t. t.table.shared.table_id) c.deref.ensures), omega (arith, c.requires.room.0, ap (λ t. t.table.shared.table_id.words) c.deref.ensures), tells _ _ _)

pub invariant_of-result : goal.invariant_of-result
invariant_of-result c =
    let s = c.split_seat-seat.ensures in
    let t = c.in_ok-try_clone.ensures in
    let room = ap (λ m. m.0.room) s.4 in
    let seen = ap (λ m. m.0.seen) s.4 in (
      s.3 ∙ c.requires.own ∙ sym (ap (λ a. a.table.shared.table_id) t),
      ap (λ a. a.table.shared.table_id.words) t ∙ c.requires.room.0 ∙ sym (ap place room),
      subst (λ n. 0 < n) (sym room) c.requires.room.1,
      subst (λ n. n ≤ 65536) (sym room) c.requires.room.2,
      ap (λ m. m.1) s.4,
      ap (λ m. m.0.writes) s.4,
      subst (λ l. 0 < length l) (sym seen) c.requires.seen.0,
      subst HeightsRise (sym seen) c.requires.seen.1,
    )
