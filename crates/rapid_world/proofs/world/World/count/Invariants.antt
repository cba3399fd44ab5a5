use Rattle.std.proofs.Common.{◌≤◌, map, take}
use Rattle.rapid_model.specs.StoredWorld.{RunsTo}
use Rattle.rapid_world.specs.Events.{event_of}
use Rattle.rapid_world.proofs.world.World.count.Given as goal

abbrev pub invariant-loop-event : goal.invariant-loop-event
invariant-loop-event l = record {
  runs : RunsTo l.fn.self (map event_of (take l.event-index l.events)) l.ran.accepted l.ran.wanted l.self;
  few : l.ran.accepted ≤ l.event-index;
  seldom : l.ran.wanted ≤ l.event-index;
}
