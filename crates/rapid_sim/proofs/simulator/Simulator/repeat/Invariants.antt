use Rattle.std.proofs.Common.{◌-◌, replicate}
use Rattle.rapid_world.specs.Events.{event_of}
use Rattle.rapid_sim.specs.Wants.{EventsPrint}
use Rattle.rapid_sim.specs.Progress.{GoesOn}
use Rattle.rapid_sim.specs.Simulators.{simulation_of}
use Rattle.rapid_sim.proofs.simulator.Simulator.repeat.Given as goal

abbrev pub invariant-loop-done : goal.invariant-loop-done
invariant-loop-done l =
    GoesOn (EventsPrint (simulation_of l.fn.self) (replicate l.count (event_of l.event))) (EventsPrint (simulation_of l.self) (replicate (l.count - l._done) (event_of l.event)))
    l.fn.output.items l.output.items l.fn.self.met l.self.met
