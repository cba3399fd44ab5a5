use Rattle.rapid_safety.proofs.Speaking.{words_are_of_members as law}
use Rattle.rapid_safety.proofs.words_are_of_members.Goals as goal

pub returns : goal.returns
returns c = law
