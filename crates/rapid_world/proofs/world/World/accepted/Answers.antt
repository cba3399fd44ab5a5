use Rattle.std.proofs.Common.{ap, ◌∙◌}
use Rattle.rapid_model.specs.StoredWorld.{accepted}
use Rattle.rapid_world.proofs.world.World.accepted.Goals as goal

pub returns : goal.returns
returns c = c.len.ensures ∙ ap accepted c.self.view_is
