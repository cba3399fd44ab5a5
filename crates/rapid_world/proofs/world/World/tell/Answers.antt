use Rattle.std.proofs.Common.{subst}
use Rattle.rapid_model.specs.Agreement.{NoCollision}
use Rattle.rapid_model.specs.RunHolds.{RunHolds}
use Rattle.rapid_model.specs.StoredWorld.{StoredWorld, world_of}
use Rattle.rapid_world.proofs.Holding.{run_holds}
use Rattle.rapid_world.proofs.world.World.tell.Goals as goal

pub returns-clause-holds : goal.returns-clause-holds
returns-clause-holds c =
    subst (λ (s : StoredWorld). NoCollision (world_of s) → RunHolds (world_of s)) c.self.view_is (run_holds _ c.runs_hold.ensures c.self.invariant.params c.self.invariant.members)
