use Rattle.std.proofs.Common.{ap, slice_get, ◌∙◌}
use Rattle.rapid_model.specs.StoredWorld.{StoredWorld}
use Rattle.rapid_world.proofs.world.World.event.Goals as goal

pub returns : goal.returns
returns c = c.event.ensures ∙ ap (λ (s : StoredWorld). slice_get s.events c.args.i) c.stored.ensures
