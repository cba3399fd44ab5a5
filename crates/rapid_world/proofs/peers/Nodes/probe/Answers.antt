use Rattle.std.proofs.Common.{◌≡◌, true, List, ap, sym, subst, ◌∙◌, arith}
use Rattle.std.specs.Prelude.{slice_set, is_some}
use Rattle.std.proofs.lemmas.Option.{slice_get_within}
use Rattle.std.proofs.lemmas.Result.{err_from_is_err_and}
use Rattle.rapid_model.specs.Node as node
use Rattle.rapid_model.specs.World.{Peer}
use Rattle.rapid_model.specs.Edge.{probed}
use Rattle.rapid_model.specs.Monitors.{edge_at}
use Rattle.rapid_model.specs.Node.{EdgeDown}
use Rattle.rapid_model.specs.WorldStep.{edge_on}
use Rattle.rapid_world.specs.Found.{AreListed}
use Rattle.rapid_world.specs.Handed.{told, KeepsAt}
use Rattle.rapid_world.proofs.Finding.{read_at, at_inside, put_back, told_listed}
use Rattle.rapid_world.proofs.peers.Nodes.probe.Goals as goal

pub index_mut-requires : goal.index_mut-requires
index_mut-requires c =
    let l = slice_get_within c.self.inside.peers.items c.args.place c.requires.peer (at_inside _ _ _ _ c.self.view_is c.requires.at) in
    omega (arith, l, c.self.inside.peers.ok)

pub probe-requires-clause-runs : goal.probe-requires-clause-runs
probe-requires-clause-runs c =
    let is = read_at _ _ _ _ _ c.self.view_is c.requires.at c.index_mut.ensures.value in
    ap (λ (p : Peer). node.is_halted p.node) is ∙ c.requires.up

pub probe-requires-clause-member : goal.probe-requires-clause-member
probe-requires-clause-member c =
    let is = read_at _ _ _ _ _ c.self.view_is c.requires.at c.index_mut.ensures.value in
    ap (λ (p : Peer). is_some (node.member_in p.node)) is ∙ c.requires.member

pub probe-requires-clause-edge : goal.probe-requires-clause-edge
probe-requires-clause-edge c =
    let is = read_at _ _ _ _ _ c.self.view_is c.requires.at c.index_mut.ensures.value in
    (c.requires.edge.0, ap (λ (p : Peer). edge_at p.edges c.args.ring) is ∙ c.requires.edge.1)

pub probe-requires-clause-keeps : goal.probe-requires-clause-keeps
probe-requires-clause-keeps c =
    let is = read_at _ _ _ _ _ c.self.view_is c.requires.at c.index_mut.ensures.value in
    subst (λ (p : Peer). (probed (edge_on p.edges c.args.ring) c.args.ok).is_down ≡ true → KeepsAt p.node (EdgeDown c.args.observed.0 c.args.ring c.args.observed.1)) (sym is) c.requires.keeps

pub invariant_of-self-2 : goal.invariant_of-self-2
invariant_of-self-2 c =
    let is = read_at _ _ _ _ _ c.self.view_is c.requires.at c.index_mut.ensures.value in
    told_listed _ _ _ _ _ c.requires.peer _ c.args.ring c.args.ok (EdgeDown c.args.observed.0 c.args.ring c.args.observed.1) c.in_ok-told.told.halts c.self.invariant (at_inside _ _ _ _ c.self.view_is c.requires.at) c.requires.up c.requires.keeps
    (c.in_ok-told.ensures.peer ∙ ap (λ (p : Peer). (told p c.args.ring c.args.ok (EdgeDown c.args.observed.0 c.args.ring c.args.observed.1) c.in_ok-told.told.halts).peer) is)

pub returns-clause-peers : goal.returns-clause-peers
returns-clause-peers c = λ p at.
    let is = read_at _ _ _ _ _ c.self.view_is at c.index_mut.ensures.value in
    ap (λ (l : List Peer). slice_set l c.args.place c.probe.new.peer) c.self.view_is
    ∙ ap (slice_set c.args.self.now c.args.place) (c.in_ok-told.ensures.peer ∙ ap (λ (q : Peer). (told q c.args.ring c.args.ok (EdgeDown c.args.observed.0 c.args.ring c.args.observed.1) c.in_ok-told.told.halts).peer) is)

pub returns-clause-packets : goal.returns-clause-packets
returns-clause-packets c = λ p at.
    let is = read_at _ _ _ _ _ c.self.view_is at c.index_mut.ensures.value in
    sym (ap (λ (q : Peer). (told q c.args.ring c.args.ok (EdgeDown c.args.observed.0 c.args.ring c.args.observed.1) c.in_ok-told.told.halts).packets) is) ∙ c.in_ok-told.ensures.packets

pub returns-clause-reports : goal.returns-clause-reports
returns-clause-reports c = λ p at.
    let is = read_at _ _ _ _ _ c.self.view_is at c.index_mut.ensures.value in
    c.in_ok-told.ensures.reports ∙ ap (λ (q : Peer). (told q c.args.ring c.args.ok (EdgeDown c.args.observed.0 c.args.ring c.args.observed.1) c.in_ok-told.told.halts).reports) is

pub returns-clause-quiet : goal.returns-clause-quiet
returns-clause-quiet c = λ p at up.
    let is = read_at _ _ _ _ _ c.self.view_is at c.index_mut.ensures.value in
    c.in_ok-told.ensures.quiet (ap (λ (q : Peer). (probed (edge_on q.edges c.args.ring) c.args.ok).is_down) is ∙ up)

pub invariant_of-self : goal.invariant_of-self
invariant_of-self c =
    subst (AreListed c.self.inside.by_id c.self.inside.by_endpoint c.self.inside.endpoints.items) (sym (put_back _ _ _ _ c.index_mut.ensures.value c.in_err-told.ensures.peer_unchanged)) c.self.invariant

pub returns-in_err-told-clause-unchanged : goal.returns-in_err-told-clause-unchanged
returns-in_err-told-clause-unchanged c =
    let p = err_from_is_err_and c.from_residual.result c.from_residual.ensures.1 in
    rw (p.1) (put_back _ _ _ _ c.index_mut.ensures.value c.in_err-told.ensures.peer_unchanged ∙ c.self.view_is)
