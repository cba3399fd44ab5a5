use Rattle.rapid_view.proofs.Moves.{looks}
use Rattle.rapid_view.proofs.stamp_reader.look.Goals as goal

pub load-requires : goal.load-requires
load-requires c = (c.requires.own, c.requires.room.2, looks _ _ _ _ c.requires.room.0)
