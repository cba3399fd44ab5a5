-- Clauses of public calls cite this file.
-- The seats at the published view, which the desk gives to its service once.
use Rattle.std.specs.Prelude.{Bool, ◌||◌, ◌&&◌, not}
use Rattle.rapid_desk.specs.Desks.{DeskValue, is_blank}

-- By the end of a step the desk had seats to give: it had them before, or the step published its first view.
abbrev pub had_seats : DeskValue → DeskValue → Bool
had_seats old new = old.seats || (is_blank old.state.published && not (is_blank new.state.published))
