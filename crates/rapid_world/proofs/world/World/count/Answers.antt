use Rattle.std.proofs.Common.{arith}
use Rattle.rapid_model.specs.StoredWorld.{ends}
use Rattle.rapid_world.proofs.world.World.count.Goals as goal

pub loop-event-init : goal.loop-event-init
loop-event-init c = record { runs = ends c.args.self.now; few = omega arith; seldom = omega arith }
