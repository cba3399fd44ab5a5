use Rattle.rapid_view.proofs.Moves.{reads}
use Rattle.rapid_view.proofs.stamp_reader.read_word.Goals as goal

pub load-requires : goal.load-requires
load-requires c = (c.requires.own, c.requires.within, reads _ _ _ _ _)
