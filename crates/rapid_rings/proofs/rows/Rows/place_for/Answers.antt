use Rattle.std.proofs.Common.{sym, ◌∙◌}
use Rattle.rapid_rings.proofs.RowEdits.{unnamed}
use Rattle.rapid_rings.proofs.rows.Rows.place_for.Goals as goal

pub push-requires : goal.push-requires
push-requires c = unnamed c.args.self.now c.args.process.now (sym c.requires ∙ c.in-None.is)
