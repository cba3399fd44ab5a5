use Rattle.std.proofs.Common.{◌&&◌, List, ap, ◌∙◌}
use Rattle.std.specs.Prelude.{position}
use Rattle.rapid_model.specs.World.{Peer, is_running, has_endpoint}
use Rattle.rapid_world.proofs.world.World.running_at.Goals as goal

pub returns : goal.returns
returns c = c.place_at.ensures ∙ ap (λ (l : List Peer). position (λ p. is_running p && has_endpoint c.args.endpoint p) l) c.peers.ensures
