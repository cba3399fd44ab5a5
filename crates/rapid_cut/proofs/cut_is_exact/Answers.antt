use Rattle.rapid_cut.proofs.Exact.{cut_is_exact as law}
use Rattle.rapid_cut.proofs.cut_is_exact.Goals as goal

pub returns : goal.returns
returns c = law
