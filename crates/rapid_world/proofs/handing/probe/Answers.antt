use Rattle.std.proofs.Common.{◌≡◌, true, false, ap, sym, subst, ◌∙◌}
use Rattle.rapid_model.specs.Node as model
use Rattle.rapid_model.specs.Process.{Process}
use Rattle.rapid_model.specs.World.{Peer}
use Rattle.rapid_node.proofs.Quiet.{edge_down_is_quiet}
use Rattle.rapid_world.specs.Handed.{Handed, KeepsAt}
use Rattle.rapid_world.proofs.Probing.{lost_is, kept_up, told_down, told_up}
use Rattle.rapid_world.proofs.handing.probe.Goals as goal

pub take_quietly-requires-clause-keeps : goal.take_quietly-requires-clause-keeps
take_quietly-requires-clause-keeps c =
    let down = lost_is c.in_ok-lost.lost c.in-Some.subject c.args.observed.1 _ c.in-Some.is c.in_ok-lost.ensures.down in
    subst (λ (n : model.Node). KeepsAt n (model.EdgeDown c.args.observed.0 c.args.ring c.in-Some.subject))
    (sym (ap (λ (p : Peer). p.node) c.in_ok-lost.ensures.peer))
    (subst (λ (q : Process). KeepsAt c.args.peer.now.node (model.EdgeDown c.args.observed.0 c.args.ring q)) (sym down.0) (c.requires.keeps down.1))

pub take_quietly-requires-clause-quiet : goal.take_quietly-requires-clause-quiet
take_quietly-requires-clause-quiet c = edge_down_is_quiet _ _ _ _

pub returns-in-Some-clause-peer : goal.returns-in-Some-clause-peer
returns-in-Some-clause-peer c =
    let down = lost_is c.in_ok-lost.lost c.in-Some.subject c.args.observed.1 _ c.in-Some.is c.in_ok-lost.ensures.down in
    c.take_quietly.ensures.peer ∙ ap (λ (h : Handed). h.peer) (told_down c.args.peer.now c.probe.new.self c.args.ring c.args.ok c.args.observed.0 c.args.observed.1 c.in-Some.subject c.take_quietly.result.halts c.in_ok-lost.ensures.peer down.0 down.1)

pub returns-in-Some-clause-packets : goal.returns-in-Some-clause-packets
returns-in-Some-clause-packets c =
    let down = lost_is c.in_ok-lost.lost c.in-Some.subject c.args.observed.1 _ c.in-Some.is c.in_ok-lost.ensures.down in
    sym (ap (λ (h : Handed). h.packets) (told_down c.args.peer.now c.probe.new.self c.args.ring c.args.ok c.args.observed.0 c.args.observed.1 c.in-Some.subject c.take_quietly.result.halts c.in_ok-lost.ensures.peer down.0 down.1)) ∙ c.take_quietly.ensures.packets

pub returns-in-Some-clause-reports : goal.returns-in-Some-clause-reports
returns-in-Some-clause-reports c =
    let down = lost_is c.in_ok-lost.lost c.in-Some.subject c.args.observed.1 _ c.in-Some.is c.in_ok-lost.ensures.down in
    c.take_quietly.ensures.report ∙ ap (λ (h : Handed). h.reports) (told_down c.args.peer.now c.probe.new.self c.args.ring c.args.ok c.args.observed.0 c.args.observed.1 c.in-Some.subject c.take_quietly.result.halts c.in_ok-lost.ensures.peer down.0 down.1)

pub returns-in-Some-clause-quiet : goal.returns-in-Some-clause-quiet
returns-in-Some-clause-quiet c =
    let down = lost_is c.in_ok-lost.lost c.in-Some.subject c.args.observed.1 _ c.in-Some.is c.in_ok-lost.ensures.down in
    λ up. let wrong : true ≡ false = sym down.1 ∙ up in cc

pub returns-in-None-clause-peer : goal.returns-in-None-clause-peer
returns-in-None-clause-peer c =
    let up = kept_up c.in_ok-lost.lost _ c.in-None.is c.in_ok-lost.ensures.up in
    c.in_ok-lost.ensures.peer ∙ sym (ap (λ (h : Handed). h.peer) (told_up c.args.peer.now c.args.ring c.args.ok (model.EdgeDown c.args.observed.0 c.args.ring c.args.observed.1) c.nothing.result.halts up))

pub returns-in-None-clause-packets : goal.returns-in-None-clause-packets
returns-in-None-clause-packets c =
    let up = kept_up c.in_ok-lost.lost _ c.in-None.is c.in_ok-lost.ensures.up in
    ap (λ (h : Handed). h.packets) (told_up c.args.peer.now c.args.ring c.args.ok (model.EdgeDown c.args.observed.0 c.args.ring c.args.observed.1) c.nothing.result.halts up)

pub returns-in-None-clause-reports : goal.returns-in-None-clause-reports
returns-in-None-clause-reports c =
    let up = kept_up c.in_ok-lost.lost _ c.in-None.is c.in_ok-lost.ensures.up in
    c.nothing.ensures.report ∙ sym (ap (λ (h : Handed). h.reports) (told_up c.args.peer.now c.args.ring c.args.ok (model.EdgeDown c.args.observed.0 c.args.ring c.args.observed.1) c.nothing.result.halts up))
