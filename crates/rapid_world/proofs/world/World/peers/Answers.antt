use Rattle.std.proofs.Common.{ap, ◌∙◌}
use Rattle.rapid_model.specs.StoredWorld.{StoredWorld, world_of}
use Rattle.rapid_world.proofs.world.World.peers.Goals as goal

pub returns : goal.returns
returns c = c.self.invariant.peers ∙ ap (λ (s : StoredWorld). (world_of s).peers) c.self.view_is
