use Rattle.std.proofs.Common.{◌≡◌, ◌++◌, map, flat_map, take}
use Rattle.rapid_model.specs.StoredWorld.{world_of}
use Rattle.rapid_world.specs.Events.{event_of}
use Rattle.rapid_sim.specs.Losing.{losing_by}
use Rattle.rapid_sim.proofs.simulator.push_each.Given as goal

abbrev pub invariant-loop-observer : goal.invariant-loop-observer
invariant-loop-observer l =
    map event_of l.events.items ≡ map event_of l.fn.events.items ++ flat_map (losing_by (world_of l.world) l.id l.rings) (take l.observer-index l.observers)
