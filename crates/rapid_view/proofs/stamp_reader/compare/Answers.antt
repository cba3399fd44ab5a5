use Rattle.std.proofs.Common.{◌∙◌, ap}
use Rattle.rapid_view.proofs.Moves.{compares}
use Rattle.rapid_view.proofs.stamp_reader.compare.Goals as goal

pub load-requires : goal.load-requires
load-requires c = (c.hear.ensures.same.0 ∙ c.requires.own, c.requires.room, compares _ _ _ _ (ap (λ m. m.0.writes) c.hear.ensures.told ∙ ap (λ m. m.0.writes) c.requires.writer))
