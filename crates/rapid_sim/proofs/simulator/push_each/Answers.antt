use Rattle.std.proofs.Common.{arith, map}
use Rattle.rapid_model.specs.StoredWorld.{world_of}
use Rattle.rapid_world.specs.Events.{event_of}
use Rattle.rapid_sim.specs.Losing.{losing_by}
use Rattle.rapid_text.proofs.Texts.{written_more}
use Rattle.rapid_sim.proofs.simulator.push_each.Goals as goal

pub loop-observer-preserved : goal.loop-observer-preserved
loop-observer-preserved c =
    written_more (losing_by (world_of c.args.world.now) c.args.id.now c.args.rings) c.args.observers.now c.loop-observer.observer-index
    (map event_of c.args.events.now.items) (map event_of c.loop-observer.events.items) _ c.observer-item.result (omega arith) c.observer-item.is c.loop-observer.invariant c.in_ok-push_losing.ensures
