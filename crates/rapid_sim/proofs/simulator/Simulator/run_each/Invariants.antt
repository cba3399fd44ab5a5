use Rattle.std.proofs.Common.{drop, map}
use Rattle.rapid_world.specs.Events.{event_of}
use Rattle.rapid_sim.specs.Wants.{EventsPrint}
use Rattle.rapid_sim.specs.Progress.{GoesOn}
use Rattle.rapid_sim.specs.Simulators.{simulation_of}
use Rattle.rapid_sim.proofs.simulator.Simulator.run_each.Given as goal

abbrev pub invariant-loop-event : goal.invariant-loop-event
invariant-loop-event l =
    GoesOn (EventsPrint (simulation_of l.fn.self) (map event_of l.events)) (EventsPrint (simulation_of l.self) (map event_of (drop l.event-index l.events)))
    l.fn.output.items l.output.items l.fn.self.met l.self.met
