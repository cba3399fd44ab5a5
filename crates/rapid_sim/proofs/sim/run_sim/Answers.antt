use Rattle.rapid_sim.proofs.Lines.{ended_front}
use Rattle.rapid_sim.proofs.sim.run_sim.Goals as goal

pub returns-in-Err-clause-begun : goal.returns-in-Err-clause-begun
returns-in-Err-clause-begun g c = ended_front _ _ _ _ _ _ c.in-Err.is c.run_sim_counted-ran.ensures.begun
