use Rattle.rapid_cut.proofs.OnePass.{one_pass}
use Rattle.rapid_cut.proofs.one_pass_is_enough.Goals as goal

pub returns : goal.returns
returns c = one_pass
