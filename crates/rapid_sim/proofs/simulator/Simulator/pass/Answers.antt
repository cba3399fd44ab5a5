use Rattle.std.proofs.Common.{suc, ◌∙◌, ap, sym, subst}
use Rattle.rapid_sim.specs.Wants.{FlowPrints}
use Rattle.rapid_sim.specs.Progress.{GoesOn}
use Rattle.rapid_sim.specs.Simulators.{simulation_of}
use Rattle.rapid_sim.proofs.Progress.{flow_passes, flow_taken, flow_stopped, was_taken, was_stopped}
use Rattle.rapid_sim.proofs.simulator.Simulator.pass.Goals as goal

pub returns-then-not-can_deliver : goal.returns-then-not-can_deliver
returns-then-not-can_deliver c = λ n.
    subst (λ t. GoesOn (FlowPrints (suc n) (simulation_of c.args.self.now)) (FlowPrints n t) c.args.output.now.items c.args.output.now.items c.args.self.now.met c.args.self.now.met)
    (ap (λ xs. record (simulation_of c.args.self.now) { settled = xs }) (sym c.in_ok-settle.ensures.ok))
    (flow_passes (simulation_of c.args.self.now) c.args.packet n c.args.output.now.items c.args.self.now.met c.requires.least (sym c.can_deliver.ensures ∙ c.if-not-can_deliver.true))

pub returns-then-not-branch : goal.returns-then-not-branch
returns-then-not-branch c = λ n.
    flow_stopped _ _ c.args.packet n _ _ _ _ c.requires.least (sym c.can_deliver.ensures ∙ c.if-not-can_deliver.false) (was_stopped _ _ _ _ _ _ _ c.in_ok-step.field-0 c.if-not-branch.true c.in_ok-step.ensures)

pub returns : goal.returns
returns c = λ n.
    subst (λ t. GoesOn (FlowPrints (suc n) (simulation_of c.args.self.now)) (FlowPrints n t) c.args.output.now.items c.step.new.output.items c.args.self.now.met c.step.new.self.met)
    (ap (λ xs. record (simulation_of c.step.new.self) { settled = xs }) (sym c.in_ok-settle-2.ensures.ok))
    (flow_taken _ _ c.args.packet n _ _ _ _ c.requires.least (sym c.can_deliver.ensures ∙ c.if-not-can_deliver.false) (was_taken _ _ _ _ _ _ _ c.in_ok-step.field-0 c.if-not-branch.false c.in_ok-step.ensures))
