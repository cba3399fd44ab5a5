use Rattle.rapid_safety.proofs.Whole.{members_vote_once as law}
use Rattle.rapid_safety.proofs.members_vote_once.Goals as goal

pub returns : goal.returns
returns c = law
