use Rattle.std.proofs.Common.{◌++◌, List, ap, sym, subst, ◌∙◌, arith}
use Rattle.std.specs.Prelude.{slice_set, map, All}
use Rattle.std.proofs.lemmas.Option.{slice_get_within}
use Rattle.std.proofs.lemmas.Result.{err_from_is_err_and}
use Rattle.rapid_model.specs.Node as node
use Rattle.rapid_model.specs.World.{Peer}
use Rattle.rapid_node.specs.Steps.{event_of}
use Rattle.rapid_world.specs.Found.{AreListed}
use Rattle.rapid_world.specs.Framed.{framed_packet, HasFrame}
use Rattle.rapid_world.specs.Handed.{handed, KeepsAt}
use Rattle.rapid_world.proofs.Finding.{read_at, at_inside, put_back, handed_listed}
use Rattle.rapid_world.proofs.peers.Nodes.hand.Goals as goal

pub index_mut-requires : goal.index_mut-requires
index_mut-requires c =
    let l = slice_get_within c.self.inside.peers.items c.args.place c.requires.peer (at_inside _ _ _ _ c.self.view_is c.requires.at) in
    omega (arith, l, c.self.inside.peers.ok)

pub hand-requires-clause-runs : goal.hand-requires-clause-runs
hand-requires-clause-runs c =
    let is = read_at _ _ _ _ _ c.self.view_is c.requires.at c.index_mut.ensures.value in
    ap (λ (p : Peer). node.is_halted p.node) is ∙ c.requires.up

pub hand-requires-clause-keeps : goal.hand-requires-clause-keeps
hand-requires-clause-keeps c =
    let is = read_at _ _ _ _ _ c.self.view_is c.requires.at c.index_mut.ensures.value in
    subst (λ (p : Peer). KeepsAt p.node (event_of c.args.event.now)) (sym is) c.requires.keeps

pub invariant_of-self-2 : goal.invariant_of-self-2
invariant_of-self-2 c =
    let is = read_at _ _ _ _ _ c.self.view_is c.requires.at c.index_mut.ensures.value in
    handed_listed _ _ _ _ _ c.requires.peer _ (event_of c.args.event.now) c.in_ok-told.told.halts c.self.invariant (at_inside _ _ _ _ c.self.view_is c.requires.at) c.requires.up c.requires.keeps
    (c.in_ok-told.ensures.peer ∙ ap (λ (p : Peer). (handed p (event_of c.args.event.now) c.in_ok-told.told.halts).peer) is)

pub returns-clause-peers : goal.returns-clause-peers
returns-clause-peers c = λ p at.
    let is = read_at _ _ _ _ _ c.self.view_is at c.index_mut.ensures.value in
    ap (λ (l : List Peer). slice_set l c.args.place c.hand.new.peer) c.self.view_is
    ∙ ap (slice_set c.args.self.now c.args.place) (c.in_ok-told.ensures.peer ∙ ap (λ (q : Peer). (handed q (event_of c.args.event.now) c.in_ok-told.told.halts).peer) is)

pub returns-clause-packets : goal.returns-clause-packets
returns-clause-packets c = λ p at.
    let is = read_at _ _ _ _ _ c.self.view_is at c.index_mut.ensures.value in
    c.in_ok-told.ensures.packets ∙ ap (λ (q : Peer). c.args.mail.now.packets ++ map framed_packet (handed q (event_of c.args.event.now) c.in_ok-told.told.halts).packets) is

pub returns-clause-framed : goal.returns-clause-framed
returns-clause-framed c = λ p at.
    let is = read_at _ _ _ _ _ c.self.view_is at c.index_mut.ensures.value in
    subst (λ (q : Peer). All HasFrame (handed q (event_of c.args.event.now) c.in_ok-told.told.halts).packets) is c.in_ok-told.ensures.framed

pub returns-clause-reports : goal.returns-clause-reports
returns-clause-reports c = λ p at.
    let is = read_at _ _ _ _ _ c.self.view_is at c.index_mut.ensures.value in
    c.in_ok-told.ensures.reports ∙ ap (λ (q : Peer). (handed q (event_of c.args.event.now) c.in_ok-told.told.halts).reports) is

pub invariant_of-self : goal.invariant_of-self
invariant_of-self c =
    subst (AreListed c.self.inside.by_id c.self.inside.by_endpoint c.self.inside.endpoints.items) (sym (put_back _ _ _ _ c.index_mut.ensures.value c.in_err-told.ensures.peer_unchanged)) c.self.invariant

pub returns-in_err-told-clause-unchanged : goal.returns-in_err-told-clause-unchanged
returns-in_err-told-clause-unchanged c =
    let p = err_from_is_err_and c.from_residual.result c.from_residual.ensures.1 in
    rw (p.1) (put_back _ _ _ _ c.index_mut.ensures.value c.in_err-told.ensures.peer_unchanged ∙ c.self.view_is)
