use Rattle.std.proofs.Common.{sym, ◌∙◌}
use Rattle.rapid_rings.proofs.RowLookups.{is_unobserved, row_at_place}
use Rattle.rapid_rings.proofs.rows.Rows.is_unobserved_member.Goals as goal

pub returns-in-Some : goal.returns-in-Some
returns-in-Some c p e = c.is_unobserved_member.ensures ∙ is_unobserved c.args.self.now p _ c.row.ensures.rules (sym (c.in-Some.ensures.row ∙ row_at_place c.args.self.now c.args.place p e))

pub returns-in-None : goal.returns-in-None
returns-in-None c p e = is_unobserved c.args.self.now p _ c.row.ensures.rules (sym (c.in-None.ensures.row ∙ row_at_place c.args.self.now c.args.place p e))
