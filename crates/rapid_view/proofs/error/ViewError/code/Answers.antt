use Rattle.std.proofs.Common.{rules}
use Rattle.rapid_view.proofs.error.ViewError.code.Goals as goal

pub returns-in-CellFull : goal.returns-in-CellFull
returns-in-CellFull c = search rules
