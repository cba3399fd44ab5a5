use Rattle.std.proofs.Common.{true, length, List, ap, ◌∙◌, arith}
use Rattle.std.specs.Prelude.{slice_set}
use Rattle.rapid_model.specs.World.{Peer}
use Rattle.rapid_world.proofs.Cases.{stands_read}
use Rattle.rapid_world.proofs.Finding.{read_at, crashed_listed}
use Rattle.rapid_world.proofs.peers.Nodes.crash.Goals as goal

pub index_mut-requires : goal.index_mut-requires
index_mut-requires c =
    let e = ap length c.self.view_is in
    let l = c.requires in
    omega (arith, l, e, c.self.inside.peers.ok)

pub invariant_of-self : goal.invariant_of-self
invariant_of-self c =
    let e = ap length c.self.view_is in
    let l = c.requires in
    crashed_listed _ _ _ _ _ _ _ c.self.invariant (stands_read c.self.inside.peers.items c.args.place _ (omega (arith, l, e)) c.index_mut.ensures.value) c.crash.ensures

pub returns : goal.returns
returns c = λ p at.
    ap (λ (l : List Peer). slice_set l c.args.place c.crash.new.self) c.self.view_is
    ∙ ap (slice_set c.args.self.now c.args.place) (c.crash.ensures ∙ ap (λ (q : Peer). record q { crashed = true }) (read_at _ _ _ _ _ c.self.view_is at c.index_mut.ensures.value))
