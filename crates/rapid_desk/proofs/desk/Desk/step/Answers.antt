use Rattle.std.proofs.Common.{ap, subst, ◌∙◌}
use Rattle.rapid_node.specs.Steps.{event_of}
use Rattle.rapid_desk.specs.Desks.{DeskValue, Refused, queues_of, state_with}
use Rattle.rapid_desk.proofs.Settling.{after_refusal}
use Rattle.rapid_desk.proofs.Following.{await_in, follow_in, queues_announced}
use Rattle.rapid_desk.proofs.desk.Desk.step.Goals as goal

pub announce-requires : goal.announce-requires
announce-requires g c =
    await_in c.installs-installed.result c.prepare.new.self.node c.node-node.result.now c.prepare.new.self.next c.self.inside.board.published c.adopt_next.new.board.published c.self.inside.outlets.items c.in_ok-adopt_next-in-Ok.ensures.shown c.installs-installed.ensures (c.node-node.ensures ∙ c.in_ok-adopt_next-in-Ok.ensures.advances.1) c.self.invariant.1

pub invariant_of-self-in-Ok : goal.invariant_of-self-in-Ok
invariant_of-self-in-Ok g c =
    (c.adopt_next.ensures.keeps, follow_in c.installs-installed.result c.prepare.new.self.node c.node-node.result.now c.prepare.new.self.next c.self.inside.board.published c.adopt_next.new.board.published c.self.inside.outlets.items c.announce.new.outlets.items c.in_ok-adopt_next-in-Ok.ensures.shown c.installs-installed.ensures (c.node-node.ensures ∙ c.in_ok-adopt_next-in-Ok.ensures.advances.1) c.self.invariant.1 c.announce.ensures)

pub invariant_of-self-in-Err : goal.invariant_of-self-in-Err
invariant_of-self-in-Err g c = ((after_refusal c.in-Err.error c.self.inside.held c.prepare.new.self c.self.inside.board.published (event_of c.args.event) c.in-Err.ensures.refused c.prepare.ensures.same c.self.invariant.0).0, c.self.invariant.1)

pub returns-in-Err-clause-refused : goal.returns-in-Err-clause-refused
returns-in-Err-clause-refused g c =
    subst (λ (v : DeskValue). Refused v.state (event_of c.args.event) (state_with c.prepare.new.self c.self.inside.board.published) c.in-Err.error) c.self.view_is
    (after_refusal c.in-Err.error c.self.inside.held c.prepare.new.self c.self.inside.board.published (event_of c.args.event) c.in-Err.ensures.refused c.prepare.ensures.same c.self.invariant.0).1

pub returns-in_ok-adopt_next-in-Ok-clause-queues :
    goal.returns-in_ok-adopt_next-in-Ok-clause-queues
returns-in_ok-adopt_next-in-Ok-clause-queues g c =
    queues_announced _ _ _ _ c.announce.ensures ∙ ap (λ (v : DeskValue). queues_of v.subscriptions) c.self.view_is
