use Rattle.std.proofs.Common.{◌≡◌, ◌∙◌, ◌++◌, ◌∷◌, [], ap, sym, arith}
use Rattle.rapid_view.specs.Words.{stamp_of}
use Rattle.rapid_view.proofs.Moves.{lengthens_at}
use Rattle.rapid_view.proofs.stamp_writer.lengthen.Goals as goal

pub store-requires : goal.store-requires
store-requires c = (c.requires.own, c.requires.within, lengthens_at _ _ _ _ _ c.args.stamp.now c.requires.count (ap (λ m. m.0.writes) c.requires.writer) (omega arith) c.requires.room.0 (ap (λ m. m.0.pending) c.requires.writer) c.requires.whole c.requires.rises)

pub returns-clause-longer : goal.returns-clause-longer
returns-clause-longer c =
    let old = c.args.seat.now.me in
    let w = c.requires.writer in
    let same : stamp_of old.0.pending ≡ c.args.stamp.now = ap (λ m. stamp_of m.0.pending) w ∙ sym c.requires.whole in
    c.store.ensures.2 ∙ (λ i. (record { writes = (w i).0.writes; room = old.0.room; seen = old.0.seen ++ same i ∷ []; told = (w i).0.told; pending = [] }, (w i).1))
