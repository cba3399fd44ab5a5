use Rattle.rapid_world.proofs.Running.{run_exact}
use Rattle.rapid_world.proofs.world.World.run_counted.Goals as goal

pub returns-clause-exact : goal.returns-clause-exact
returns-clause-exact c = run_exact _ _ _ _ _ c.count-ran.ensures
