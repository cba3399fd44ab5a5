use Rattle.rapid_safety.proofs.Whole.{runs_hold as law}
use Rattle.rapid_safety.proofs.runs_hold.Goals as goal

pub returns : goal.returns
returns c = law
