use Rattle.std.proofs.Common.{ap, ◌∙◌}
use Rattle.std.specs.Prelude.{is_some}
use Rattle.rapid_model.specs.Node.{Node, member_in}
use Rattle.rapid_model.specs.Process.{identifier}
use Rattle.rapid_model.specs.World.{Peer}
use Rattle.rapid_world.proofs.Taking.{quiet_peer, quiet_packets, quiet_reports, stop_peer, faulted, no_packets, tells_halt}
use Rattle.rapid_world.proofs.peer.Peer.take_quietly.Goals as goal

pub returns-in-Ok-clause-peer : goal.returns-in-Ok-clause-peer
returns-in-Ok-clause-peer c = quiet_peer c.self.inside.windows _ _ _ _ _ _ _ c.self.view_is c.in-Ok.ensures.step c.requires.keeps c.nothing.ensures.halts c.requires.quiet

pub returns-in-Ok-clause-packets : goal.returns-in-Ok-clause-packets
returns-in-Ok-clause-packets c = quiet_packets _ _ _ _ _ _ (ap (λ (p : Peer). p.node) c.self.view_is) c.in-Ok.ensures.step c.nothing.ensures.halts c.requires.quiet

pub returns-in-Ok-clause-report : goal.returns-in-Ok-clause-report
returns-in-Ok-clause-report c =
    quiet_reports _ _ _ _ _ _ _ (ap (λ (p : Peer). p.node) c.self.view_is) c.in-Ok.ensures.step c.requires.keeps c.nothing.ensures.halts c.requires.quiet c.nothing.ensures.report

pub returns-in-Err-clause-peer : goal.returns-in-Err-clause-peer
returns-in-Err-clause-peer c =
    let stops = faulted _ _ _ _ _ _ (ap (λ (p : Peer). p.node) c.self.view_is) c.requires.runs c.in-Err.ensures.fault (c.halted.ensures.halts ∙ c.is_want_of_memory.ensures) in
    stop_peer _ _ _ _ _ _ _ _ _ c.self.view_is (stops.0) (stops.1) (c.is_in_a_configuration-was_member.ensures ∙ ap (λ (p : Peer). is_some (member_in p.node)) c.self.view_is) c.leave.ensures

pub returns-in-Err-clause-packets : goal.returns-in-Err-clause-packets
returns-in-Err-clause-packets c =
    let stops = faulted _ _ _ _ _ _ (ap (λ (p : Peer). p.node) c.self.view_is) c.requires.runs c.in-Err.ensures.fault (c.halted.ensures.halts ∙ c.is_want_of_memory.ensures) in
    no_packets _ _ _ (stops.0)

pub returns-in-Err-clause-report : goal.returns-in-Err-clause-report
returns-in-Err-clause-report c =
    let stops = faulted _ _ _ _ _ _ (ap (λ (p : Peer). p.node) c.self.view_is) c.requires.runs c.in-Err.ensures.fault (c.halted.ensures.halts ∙ c.is_want_of_memory.ensures) in
    tells_halt _ _ _ _ _ (stops.0) (c.id-id.ensures ∙ ap identifier (c.process.ensures ∙ ap (λ (n : Node). n.me) (stops.1))) c.halted.ensures.report
