use Rattle.std.proofs.Common.{◌∙◌, ap}
use Rattle.rapid_view.proofs.Moves.{tells, hears}
use Rattle.rapid_view.proofs.stamp_reader.hear.Goals as goal

pub split_seat-note-requires : goal.split_seat-note-requires
split_seat-note-requires c = (c.requires.theirs, c.requires.room, tells _ _ _)

pub join_seat-requires : goal.join_seat-requires
join_seat-requires c = (c.requires.own, c.split_seat-note.ensures.3 ∙ c.requires.theirs, ap (λ m. m.1) c.split_seat-note.ensures.4, c.requires.room, hears _ _ _ _ _)
