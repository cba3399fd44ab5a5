use Rattle.rapid_safety.proofs.Whole.{one_cut_is_asked as law}
use Rattle.rapid_safety.proofs.one_cut_is_asked.Goals as goal

pub returns : goal.returns
returns c = law
