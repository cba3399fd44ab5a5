use Rattle.rapid_cut.proofs.Exact.{lists_are_exact as law}
use Rattle.rapid_cut.proofs.lists_are_exact.Goals as goal

pub returns : goal.returns
returns c = law
