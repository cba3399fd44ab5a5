use Rattle.rapid_safety.proofs.Supporting.{cuts_are_whole as law}
use Rattle.rapid_safety.proofs.cuts_are_whole.Goals as goal

pub returns : goal.returns
returns c = law
