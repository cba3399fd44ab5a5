use Rattle.rapid_safety.proofs.Told.{installs_rise as law}
use Rattle.rapid_safety.proofs.installs_rise.Goals as goal

pub returns : goal.returns
returns c = law
