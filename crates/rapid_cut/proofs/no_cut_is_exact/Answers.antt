use Rattle.rapid_cut.proofs.Exact.{no_cut_is_exact as law}
use Rattle.rapid_cut.proofs.no_cut_is_exact.Goals as goal

pub returns : goal.returns
returns c = law
