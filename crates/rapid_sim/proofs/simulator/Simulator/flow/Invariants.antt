use Rattle.std.proofs.Common.{◌-◌}
use Rattle.rapid_sim.specs.Wants.{FlowPrints}
use Rattle.rapid_sim.specs.Progress.{GoesOn}
use Rattle.rapid_sim.specs.Simulators.{simulation_of}
use Rattle.rapid_sim.proofs.simulator.Simulator.flow.Given as goal

abbrev pub invariant-loop-done : goal.invariant-loop-done
invariant-loop-done l =
    GoesOn (FlowPrints 10000 (simulation_of l.fn.self)) (FlowPrints (10000 - l._done) (simulation_of l.self))
    l.fn.output.items l.output.items l.fn.self.met l.self.met
