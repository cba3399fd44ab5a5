use Rattle.std.proofs.Common.{◌&&◌, List, ap, ◌∙◌}
use Rattle.std.specs.Prelude.{position}
use Rattle.rapid_model.specs.World.{Peer, is_running, has_identifier}
use Rattle.rapid_world.proofs.world.World.running_under.Goals as goal

pub returns : goal.returns
returns c = c.place_under.ensures ∙ ap (λ (l : List Peer). position (λ p. is_running p && has_identifier c.args.id.now p) l) c.peers.ensures
