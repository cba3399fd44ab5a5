use Rattle.std.proofs.Common.{ap, sym, ◌∙◌}
use Rattle.std.specs.Option.{option_map}
use Rattle.rapid_model.specs.World.{Peer, has_identifier}
use Rattle.rapid_world.proofs.Finding.{found, found_nowhere}
use Rattle.rapid_world.proofs.lookups.find_under.Goals as goal

pub returns-in-Some : goal.returns-in-Some
returns-in-Some c =
    c.node_if_under.ensures ∙ found (has_identifier c.args.id.now) c.args.peers.now c.args.place c.in-Some.peer.now (λ (p : Peer). p.node) c.requires c.in-Some.ensures

pub returns-in-None : goal.returns-in-None
returns-in-None c = sym (ap (option_map (λ (p : Peer). p.node)) (found_nowhere (has_identifier c.args.id.now) c.args.peers.now c.args.place c.requires c.in-None.ensures))
