use Rattle.std.proofs.Common.{ap, arith}
use Rattle.rapid_view.proofs.Moves.{stores_at}
use Rattle.rapid_view.proofs.stamp_writer.store_word.Goals as goal

pub store-requires : goal.store-requires
store-requires c = (c.requires.own, c.requires.within, stores_at _ _ _ _ _ _ c.requires.place (ap (λ m. m.0.writes) c.requires.writer) (omega arith) c.requires.room.0 c.requires.room.1)
