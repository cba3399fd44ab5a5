use Rattle.std.proofs.Common.{◌∙◌, ℕ, not, sym, ap}
use Rattle.std.specs.List.{find, range_with_len}
use Rattle.std.specs.FinSet as set
use Rattle.rapid_model.specs.SimText.{least_unsettled}
use Rattle.rapid_sim.specs.Simulators.{simulation_of}
use Rattle.rapid_sim.proofs.Progress.{flow_none}
use Rattle.rapid_sim.proofs.simulator.Simulator.flow_once.Goals as goal

pub returns-in-None : goal.returns-in-None
unfolding least_unsettled
returns-in-None c = λ n.
    flow_none (simulation_of c.args.self.now) n c.args.output.now.items c.args.self.now.met
    (ap (λ (m : ℕ). find (λ k. not (set.contains c.args.self.now.settled k)) (range_with_len 1 m)) (sym c.packets.ensures) ∙ sym c.in-None.ensures.least)
