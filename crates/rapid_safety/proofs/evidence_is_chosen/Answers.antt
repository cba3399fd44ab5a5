use Rattle.rapid_safety.proofs.Grounds.{evidence_is_chosen as law}
use Rattle.rapid_safety.proofs.evidence_is_chosen.Goals as goal

pub returns : goal.returns
returns c = law
