use Rattle.std.proofs.Common.{ap, ◌∙◌}
use Rattle.std.specs.Prelude.{is_some}
use Rattle.rapid_model.specs.StoredWorld.{world_of}
use Rattle.rapid_world.proofs.Framing.{can_be_received, cannot_be_received}
use Rattle.rapid_world.proofs.world.World.can_deliver.Goals as goal

pub returns-in-Some : goal.returns-in-Some
returns-in-Some c = c.is_some.ensures ∙ ap is_some c.running_at.ensures ∙ can_be_received (world_of c.args.self.now) _ _ _ c.in-Some.ensures

pub returns-in-None : goal.returns-in-None
returns-in-None c = cannot_be_received (world_of c.args.self.now) _ c.in-None.ensures
