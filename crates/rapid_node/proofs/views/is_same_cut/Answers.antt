use Rattle.std.proofs.Common.{sym, ◌∙◌}
use Rattle.rapid_model.proofs.Orders.{same_cut_decides}
use Rattle.rapid_node.proofs.views.is_same_cut.Goals as goal

pub returns : goal.returns
returns c h = (same_cut_decides c.args.a.now c.args.b.now).0 (sym c.eq.ensures ∙ h)
