use Rattle.std.proofs.Common.{◌&&◌, ◌∙◌}
use Rattle.rapid_model.specs.World.{is_running, has_identifier}
use Rattle.rapid_world.proofs.Finding.{chosen, place_nowhere, runs_only}
use Rattle.rapid_world.proofs.lookups.place_under.Goals as goal

pub returns-in-Some : goal.returns-in-Some
returns-in-Some c =
    c.if_under.ensures
    ∙ chosen (λ p. is_running p && has_identifier c.args.id.now p) c.args.peers.now c.args.place c.in-Some.peer.now (runs_only c.args.peers.now c.args.place c.args.id.now c.requires) c.in-Some.ensures

pub returns-in-None : goal.returns-in-None
returns-in-None c =
    place_nowhere (λ p. is_running p && has_identifier c.args.id.now p) c.args.peers.now c.args.place (runs_only c.args.peers.now c.args.place c.args.id.now c.requires) c.in-None.ensures
