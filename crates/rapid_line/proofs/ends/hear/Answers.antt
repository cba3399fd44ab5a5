use Rattle.rapid_line.proofs.Moves.{put_notes, put_hears}
use Rattle.rapid_line.proofs.ends.hear.Goals as goal

pub another-note-requires-clause-rule : goal.another-note-requires-clause-rule
another-note-requires-clause-rule g c = put_notes _ _ _

pub absorb-requires-clause-rule : goal.absorb-requires-clause-rule
absorb-requires-clause-rule g c = put_hears _ _ _ _ _ c.requires.takes.0
