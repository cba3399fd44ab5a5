use Rattle.std.proofs.Common.{◌≡◌, ◌<◌, List, length, slice_get, Some, sym, ap, ◌∙◌, arith}
use Rattle.rapid_model.specs.World.{Peer}
use Rattle.rapid_model.specs.StoredWorld.{world_of}
use Rattle.rapid_world.proofs.Cases.{edge_probes, edge_unseen, probe_refused, under_within, stands_read}
use Rattle.rapid_world.proofs.world.World.edge.Goals as goal

pub bounds-as_slice-place : goal.bounds-as_slice-place
bounds-as_slice-place c = let l = under_within (world_of c.args.self.now) c.args.id.now c.in-Some.place (sym c.in-Some.ensures) in let e = ap length (c.as_slice.ensures ∙ c.peers.ensures) in omega arith

pub returns-in-Some-observed-clause-probes : goal.returns-in-Some-observed-clause-probes
returns-in-Some-observed-clause-probes c =
    let within : c.in-Some.place < length c.as_slice.result.now = let l = under_within (world_of c.args.self.now) c.args.id.now c.in-Some.place (sym c.in-Some.ensures) in let e = ap length (c.as_slice.ensures ∙ c.peers.ensures) in omega arith in
    let at : slice_get (world_of c.args.self.now).peers c.in-Some.place ≡ Some c.index-as_slice-place.result =
    ap (λ (l : List Peer). slice_get l c.in-Some.place) (sym (c.as_slice.ensures ∙ c.peers.ensures)) ∙ stands_read c.as_slice.result.now c.in-Some.place c.index-as_slice-place.result within c.index-as_slice-place.is in
    edge_probes c.args.self.now c.args.id.now c.args.ring c.args.ok c.in-Some.place c.index-as_slice-place.result c.in-Some-observed.edge.0 c.in-Some-observed.edge.1 c.tell.ensures.members c.requires (sym c.in-Some.ensures) at
    c.in-Some-observed.ensures

pub returns-in-None-observed-clause-refused : goal.returns-in-None-observed-clause-refused
returns-in-None-observed-clause-refused c =
    let within : c.in-Some.place < length c.as_slice.result.now = let l = under_within (world_of c.args.self.now) c.args.id.now c.in-Some.place (sym c.in-Some.ensures) in let e = ap length (c.as_slice.ensures ∙ c.peers.ensures) in omega arith in
    let at : slice_get (world_of c.args.self.now).peers c.in-Some.place ≡ Some c.index-as_slice-place.result =
    ap (λ (l : List Peer). slice_get l c.in-Some.place) (sym (c.as_slice.ensures ∙ c.peers.ensures)) ∙ stands_read c.as_slice.result.now c.in-Some.place c.index-as_slice-place.result within c.index-as_slice-place.is in
    edge_unseen c.args.self.now c.args.id.now c.args.ring c.args.ok c.in-Some.place c.index-as_slice-place.result c.requires (sym c.in-Some.ensures) at c.in-None-observed.ensures

pub returns-in-None-clause-refused : goal.returns-in-None-clause-refused
returns-in-None-clause-refused c = probe_refused c.args.self.now c.args.id.now c.args.ring c.args.ok c.requires (sym c.in-None.ensures)
