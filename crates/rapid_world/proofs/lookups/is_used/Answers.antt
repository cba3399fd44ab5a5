use Rattle.rapid_model.specs.World.{has_identifier}
use Rattle.rapid_world.proofs.Finding.{any_there, any_nowhere}
use Rattle.rapid_world.proofs.lookups.is_used.Goals as goal

pub returns-in-Some : goal.returns-in-Some
returns-in-Some c = any_there (has_identifier c.args.id.now) c.args.peers.now c.args.place c.in-Some.peer.now _ c.requires c.in-Some.ensures c.is_under.ensures

pub returns-in-None : goal.returns-in-None
returns-in-None c = any_nowhere (has_identifier c.args.id.now) c.args.peers.now c.args.place c.requires c.in-None.ensures
