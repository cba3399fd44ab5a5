use Rattle.rapid_safety.proofs.Rules.{accepts_exclude_below as law}
use Rattle.rapid_safety.proofs.accepts_exclude_below.Goals as goal

pub returns : goal.returns
returns c = law
