use Rattle.std.proofs.Common.{◌∙◌, sym}
use Rattle.rapid_model.proofs.Orders.{same_bytes_decides}
use Rattle.rapid_node.proofs.views.is_same_id.Goals as goal

pub returns : goal.returns
returns c h = (same_bytes_decides c.args.a c.args.b).0 (sym c.eq.ensures ∙ h)
