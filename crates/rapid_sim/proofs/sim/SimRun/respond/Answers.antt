use Rattle.std.proofs.Common.{ap}
use Rattle.rapid_sim.specs.Commands.{asked_of}
use Rattle.rapid_sim.proofs.Progress.{answered_nothing}
use Rattle.rapid_sim.proofs.sim.SimRun.respond.Goals as goal

pub returns-in-Nothing : goal.returns-in-Nothing
returns-in-Nothing c = answered_nothing _ _ _ _ (ap asked_of c.in-Nothing.is)
