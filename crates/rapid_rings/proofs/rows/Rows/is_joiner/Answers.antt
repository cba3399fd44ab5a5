use Rattle.std.proofs.Common.{ap, sym, ◌∙◌}
use Rattle.rapid_rings.specs.declared.row.Row.{Row}
use Rattle.rapid_rings.specs.Rows.{row_says}
use Rattle.rapid_rings.proofs.RowLookups.{has_joiner, row_at_place}
use Rattle.rapid_rings.proofs.rows.Rows.is_joiner.Goals as goal

pub returns-in-Some : goal.returns-in-Some
returns-in-Some c p e = ap (row_says (λ (r : Row). r.is_joiner)) (c.in-Some.ensures.row ∙ row_at_place c.args.self.now c.args.place p e) ∙ sym (has_joiner c.args.self.now p c.row.ensures.rules.once)

pub returns-in-None : goal.returns-in-None
returns-in-None c p e = ap (row_says (λ (r : Row). r.is_joiner)) (c.in-None.ensures.row ∙ row_at_place c.args.self.now c.args.place p e) ∙ sym (has_joiner c.args.self.now p c.row.ensures.rules.once)
