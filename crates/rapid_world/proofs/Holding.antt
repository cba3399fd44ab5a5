-- What is promised of each world.
use Rattle.std.proofs.Common.{List}
use Rattle.rapid_model.specs.Configuration.{Configuration, AreParams, AreMembers}
use Rattle.rapid_model.specs.World.{MarkedEvent}
use Rattle.rapid_model.specs.Run.{run, founded}
use Rattle.rapid_model.specs.StoredWorld.{StoredWorld, world_of}
use Rattle.rapid_model.specs.Agreement.{NoCollision}
use Rattle.rapid_model.specs.RunHolds.{RunHolds}

abbrev pub AllRunsHold : Type 0
AllRunsHold = (c : Configuration) (events : List MarkedEvent) → AreParams c.params → AreMembers c.members → NoCollision (run events (founded c)) → RunHolds (run events (founded c))

pub run_holds : (s : StoredWorld) → AllRunsHold → AreParams s.founding.params → AreMembers s.founding.members → NoCollision (world_of s) → RunHolds (world_of s)
unfolding world_of
run_holds s all params members apart = all s.founding s.events params members apart
