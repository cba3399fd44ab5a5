use Rattle.std.proofs.Common.{List, ap, sym, slice_get, ◌∙◌}
use Rattle.rapid_model.specs.World.{Peer}
use Rattle.rapid_world.proofs.Finding.{id_only}
use Rattle.rapid_world.proofs.peers.Nodes.place_under.Goals as goal

pub place_under-requires : goal.place_under-requires
place_under-requires c = λ i p at ok. c.get.ensures ∙ id_only _ _ _ c.self.invariant.found c.args.id.now i p (ap (λ (l : List Peer). slice_get l i) (sym c.as_slice.ensures.value) ∙ at) ok
