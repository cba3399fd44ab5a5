use Rattle.std.proofs.Common.{subst}
use Rattle.rapid_world.specs.Found.{HasAll}
use Rattle.rapid_world.proofs.places.PlacesById.ids.Goals as goal

pub returns : goal.returns
returns c = subst (HasAll c.self.inside.ids.keys) c.self.view_is c.self.invariant
