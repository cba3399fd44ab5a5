use Rattle.std.proofs.Common.{◌∙◌, sym}
use Rattle.rapid_model.proofs.Orders.{same_bytes_decides}
use Rattle.rapid_rings.proofs.known_keys.RingKeys.are_of.Goals as goal

pub returns : goal.returns
returns c h = sym c.self.view_is ∙ (same_bytes_decides c.self.inside.process c.args.process.now).0 (sym c.eq.ensures ∙ h)
