use Rattle.std.proofs.Common.{List, ap, sym, slice_get, ◌∙◌}
use Rattle.rapid_model.specs.World.{Peer}
use Rattle.rapid_world.proofs.Finding.{end_only}
use Rattle.rapid_world.proofs.peers.Nodes.place_by_endpoint.Goals as goal

pub place_at-requires : goal.place_at-requires
place_at-requires c = λ i p at ok. c.get.ensures ∙ end_only _ _ _ c.self.invariant.found c.args.endpoint.now i p (ap (λ (l : List Peer). slice_get l i) (sym c.as_slice.ensures.value) ∙ at) ok
