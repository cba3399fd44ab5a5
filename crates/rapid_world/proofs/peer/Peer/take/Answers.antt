use Rattle.std.proofs.Common.{List, refl, ap, subst, ◌∙◌}
use Rattle.std.specs.Prelude.{is_some, map, All}
use Rattle.rapid_model.specs.Node.{Node, Output, member_in}
use Rattle.rapid_model.specs.NodeStep.{node_step}
use Rattle.rapid_model.specs.Process.{identifier}
use Rattle.rapid_model.specs.World.{Peer}
use Rattle.rapid_node.specs.Steps.{HasOutcome, event_of}
use Rattle.rapid_world.specs.Framed.{framed_packet, HasFrame}
use Rattle.rapid_world.specs.Handed.{sent_by}
use Rattle.rapid_world.specs.Windows.{entered}
use Rattle.rapid_world.proofs.Taking.{ok_peer, ok_sending, ok_framed, ok_reports, stop_peer, faulted, no_sending, none_framed, tells_halt}
use Rattle.rapid_world.proofs.peer.Peer.take.Goals as goal

pub returns-in_ok-sent-in-Ok-clause-peer : goal.returns-in_ok-sent-in-Ok-clause-peer
returns-in_ok-sent-in-Ok-clause-peer c =
    let there = subst (λ (x : Node). HasOutcome x.me (node_step x (event_of c.args.event.now)) c.step_in.new.self c.in-Ok.outputs.items) c.in_ok-node.ensures c.in-Ok.ensures.step in
    ok_peer _ _ _ _ _ _ _ _ _ c.self.view_is there c.requires.keeps c.in_ok-taken-in-Ok.ensures.halts (c.enter.ensures ∙ ap (λ b. entered b c.self.inside.windows) c.has_entered.ensures)

pub returns-in_ok-sent-in-Ok-clause-sending : goal.returns-in_ok-sent-in-Ok-clause-sending
returns-in_ok-sent-in-Ok-clause-sending c =
    let there = subst (λ (x : Node). HasOutcome x.me (node_step x (event_of c.args.event.now)) c.step_in.new.self c.in-Ok.outputs.items) c.in_ok-node.ensures c.in-Ok.ensures.step in
    ok_sending _ _ _ _ _ _ _ (ap (λ (p : Peer). p.node) c.self.view_is) there c.in_ok-taken-in-Ok.ensures.halts
    (c.in_ok-taken-in-Ok.ensures.sending ∙ ap (λ (l : List Output). map framed_packet (sent_by c.self.inside.node l)) c.as_slice.ensures.value)

pub returns-in_ok-sent-in-Ok-clause-framed : goal.returns-in_ok-sent-in-Ok-clause-framed
returns-in_ok-sent-in-Ok-clause-framed c =
    let there = subst (λ (x : Node). HasOutcome x.me (node_step x (event_of c.args.event.now)) c.step_in.new.self c.in-Ok.outputs.items) c.in_ok-node.ensures c.in-Ok.ensures.step in
    ok_framed _ _ _ _ _ _ (ap (λ (p : Peer). p.node) c.self.view_is) there c.in_ok-taken-in-Ok.ensures.halts
    (subst (λ (l : List Output). All HasFrame (sent_by c.self.inside.node l)) c.as_slice.ensures.value c.in_ok-taken-in-Ok.ensures.framed)

pub returns-in_ok-sent-in-Ok-clause-report : goal.returns-in_ok-sent-in-Ok-clause-report
returns-in_ok-sent-in-Ok-clause-report c =
    let there = subst (λ (x : Node). HasOutcome x.me (node_step x (event_of c.args.event.now)) c.step_in.new.self c.in-Ok.outputs.items) c.in_ok-node.ensures c.in-Ok.ensures.step in
    ok_reports _ _ _ _ _ _ _ _ (ap (λ (p : Peer). p.node) c.self.view_is) there c.requires.keeps c.in_ok-taken-in-Ok.ensures.halts refl c.in_ok-taken-in-Ok.ensures.report

pub returns-in-Err-clause-peer : goal.returns-in-Err-clause-peer
returns-in-Err-clause-peer c =
    let at = c.in_ok-node.ensures ∙ ap (λ (p : Peer). p.node) c.self.view_is in
    let stops = faulted _ _ _ _ _ _ at c.requires.runs c.in-Err.ensures.fault (c.halted.ensures.halts ∙ c.is_want_of_memory.ensures) in
    stop_peer _ _ _ _ _ _ _ _ _ c.self.view_is (stops.0) (stops.1) (c.is_in_a_configuration-was_member.ensures ∙ ap (λ (p : Peer). is_some (member_in p.node)) c.self.view_is) c.leave.ensures

pub returns-in-Err-clause-sending : goal.returns-in-Err-clause-sending
returns-in-Err-clause-sending c =
    let at = c.in_ok-node.ensures ∙ ap (λ (p : Peer). p.node) c.self.view_is in
    let stops = faulted _ _ _ _ _ _ at c.requires.runs c.in-Err.ensures.fault (c.halted.ensures.halts ∙ c.is_want_of_memory.ensures) in
    no_sending _ _ _ _ (stops.0) c.halted.ensures.sending

pub returns-in-Err-clause-framed : goal.returns-in-Err-clause-framed
returns-in-Err-clause-framed c =
    let at = c.in_ok-node.ensures ∙ ap (λ (p : Peer). p.node) c.self.view_is in
    let stops = faulted _ _ _ _ _ _ at c.requires.runs c.in-Err.ensures.fault (c.halted.ensures.halts ∙ c.is_want_of_memory.ensures) in
    none_framed _ _ _ (stops.0)

pub returns-in-Err-clause-report : goal.returns-in-Err-clause-report
returns-in-Err-clause-report c =
    let at = c.in_ok-node.ensures ∙ ap (λ (p : Peer). p.node) c.self.view_is in
    let stops = faulted _ _ _ _ _ _ at c.requires.runs c.in-Err.ensures.fault (c.halted.ensures.halts ∙ c.is_want_of_memory.ensures) in
    tells_halt _ _ _ _ _ (stops.0) (c.id-id.ensures ∙ ap identifier (c.process.ensures ∙ ap (λ (p : Peer). p.node.me) c.self.view_is)) c.halted.ensures.report
