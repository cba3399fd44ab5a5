use Rattle.std.proofs.Common.{sym, ◌∙◌}
use Rattle.std.specs.Cmp.Lexicographic.{same_text}
use Rattle.rapid_wire.proofs.kinds.are_same.Goals as goal

pub returns : goal.returns
returns c h = same_text c.args.a.now c.args.b.now (sym h ∙ c.eq.ensures)
