use Rattle.std.proofs.Common.{ap, sym, subst}
use Rattle.rapid_sim.specs.Wants.{DeliveryPrints}
use Rattle.rapid_sim.specs.Progress.{IsDone}
use Rattle.rapid_sim.specs.Simulators.{simulation_of}
use Rattle.rapid_sim.proofs.Progress.{delivery_taken, delivery_stopped, was_taken, was_stopped}
use Rattle.rapid_sim.proofs.simulator.Simulator.deliver.Goals as goal

pub returns-in_ok-settle : goal.returns-in_ok-settle
returns-in_ok-settle c =
    subst (λ t. IsDone (DeliveryPrints (simulation_of c.args.self.now) c.args.packet) t c.args.output.now.items c.step.new.output.items c.args.self.now.met c.step.new.self.met)
    (ap (λ xs. record (simulation_of c.step.new.self) { settled = xs }) (sym c.in_ok-settle.ensures.ok))
    (delivery_taken _ _ c.args.packet _ _ _ _ (was_taken _ _ _ _ _ _ _ c.in_ok-step.field-0 c.if-branch.true c.in_ok-step.ensures))

pub returns-else-branch : goal.returns-else-branch
returns-else-branch c = delivery_stopped _ _ c.args.packet _ _ _ _ (was_stopped _ _ _ _ _ _ _ c.in_ok-step.field-0 c.if-branch.false c.in_ok-step.ensures)
