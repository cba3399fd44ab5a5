use Rattle.rapid_safety.proofs.Rules.{accepts_are_lawful as law}
use Rattle.rapid_safety.proofs.accepts_are_lawful.Goals as goal

pub returns : goal.returns
returns c = law
