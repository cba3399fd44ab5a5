use Rattle.std.proofs.Common.{◌≡◌, ◌++◌, map}
use Rattle.rapid_model.specs.StoredWorld.{world_of}
use Rattle.rapid_world.specs.Events.{event_of}
use Rattle.rapid_sim.specs.Losing.{losing_by}
use Rattle.rapid_sim.proofs.simulator.push_losing.Given as goal

abbrev pub invariant-loop-ring : goal.invariant-loop-ring
invariant-loop-ring l = map event_of l.events.items ≡ map event_of l.fn.events.items ++ losing_by (world_of l.world) l.id l.ring l.observer
