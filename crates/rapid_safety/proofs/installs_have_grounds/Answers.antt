use Rattle.rapid_safety.proofs.Grounds.{installs_have_grounds as law}
use Rattle.rapid_safety.proofs.installs_have_grounds.Goals as goal

pub returns : goal.returns
returns c = law
