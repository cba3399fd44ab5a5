use Rattle.std.proofs.Common.{◌≡◌, ◌&&◌, List, Some, subst}
use Rattle.std.specs.Prelude.{position}
use Rattle.rapid_model.specs.World.{Peer, is_running, has_endpoint}
use Rattle.rapid_world.specs.Found.{RunsAt}
use Rattle.rapid_world.proofs.Finding.{near_is}
use Rattle.rapid_world.proofs.peers.Nodes.place_at.Goals as goal

pub returns-in-Some : goal.returns-in-Some
returns-in-Some c =
    subst (λ (l : List Peer). Some c.in-Some.place ≡ position (λ p. is_running p && has_endpoint c.args.endpoint.now p) l) c.self.view_is
    (near_is _ _ _ c.self.invariant.found c.args.endpoint.now c.in-Some.place
    (subst (λ (l : List Peer). RunsAt l c.args.endpoint.now c.in-Some.place) c.as_slice-peers.ensures.value c.in-Some.ensures))
