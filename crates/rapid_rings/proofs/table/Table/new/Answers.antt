use Rattle.std.proofs.Common.{ap, ◌∙◌}
use Rattle.rapid_rings.specs.Rows.{Rows, table_of}
use Rattle.rapid_rings.proofs.Tables.{Holds-none, no_table}
use Rattle.rapid_rings.proofs.table.Table.new.Goals as goal

pub invariant_of-result : goal.invariant_of-result
invariant_of-result c = rw c.new.ensures (Holds-none c.args.params c.k.ensures.in_order)

pub returns : goal.returns
returns c = ap (λ (x : Rows). table_of c.args.params x) c.new.ensures ∙ no_table c.args.params
