use Rattle.rapid_rings.proofs.Tables.{none_are_rows}
use Rattle.rapid_rings.proofs.rows.Rows.new.Goals as goal

pub invariant_of-result : goal.invariant_of-result
invariant_of-result c = rw (c.new.ensures, c.new-2.ensures.items) none_are_rows
