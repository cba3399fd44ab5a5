use Rattle.std.proofs.Common.{ap, ◌∙◌, arith}
use Rattle.rapid_monitor.proofs.Moves.{notes, own_notes, hears}
use Rattle.rapid_monitor.proofs.board.tie.Goals as goal

pub split_seat-note-requires : goal.split_seat-note-requires
split_seat-note-requires c = (c.requires.theirs, omega (arith, c.requires.within.0), own_notes _ _ _ (ap (λ m. m.0.owns) c.requires.owner))

pub split_seat-mine-requires : goal.split_seat-mine-requires
split_seat-mine-requires c = (c.requires.own, omega (arith, c.requires.within.0), notes _ _ _)

pub join_seat-requires : goal.join_seat-requires
join_seat-requires c =
    let n = c.split_seat-mine.ensures in (
      c.split_seat-note.ensures.0 ∙ c.requires.theirs,
      n.3 ∙ c.requires.own,
      ap (λ m. m.1) n.4,
      omega (arith, c.requires.within.0),
      hears _ _ _ _ _ (ap (λ m. m.0.makes) n.4) (ap (λ m. m.0.owns) n.4) (ap (λ m. m.0.edge) n.4) (ap (λ m. m.0.next) n.4),
    )

pub join_seat-requires-2 : goal.join_seat-requires-2
join_seat-requires-2 c =
    let n = c.split_seat-note.ensures in (
      c.split_seat-mine.ensures.0 ∙ c.requires.own,
      n.3 ∙ c.requires.theirs,
      ap (λ m. m.1) n.4,
      omega (arith, c.requires.within.0),
      hears _ _ _ _ _ (ap (λ m. m.0.makes) n.4) (ap (λ m. m.0.owns) n.4) (ap (λ m. m.0.edge) n.4) (ap (λ m. m.0.next) n.4),
    )
