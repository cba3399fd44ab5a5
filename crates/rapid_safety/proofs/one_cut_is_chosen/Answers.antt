use Rattle.rapid_safety.proofs.Rules.{one_cut_is_chosen as law}
use Rattle.rapid_safety.proofs.one_cut_is_chosen.Goals as goal

pub returns : goal.returns
returns c = law
