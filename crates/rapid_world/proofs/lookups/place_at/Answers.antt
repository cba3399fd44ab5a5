use Rattle.std.proofs.Common.{◌&&◌, ◌∙◌}
use Rattle.rapid_model.specs.World.{is_running, has_endpoint}
use Rattle.rapid_world.proofs.Finding.{chosen, place_nowhere}
use Rattle.rapid_world.proofs.lookups.place_at.Goals as goal

pub returns-in-Some : goal.returns-in-Some
returns-in-Some c =
    c.if_at.ensures ∙ chosen (λ p. is_running p && has_endpoint c.args.endpoint.now p) c.args.peers.now c.args.place c.in-Some.peer.now c.requires c.in-Some.ensures

pub returns-in-None : goal.returns-in-None
returns-in-None c = place_nowhere (λ p. is_running p && has_endpoint c.args.endpoint.now p) c.args.peers.now c.args.place c.requires c.in-None.ensures
