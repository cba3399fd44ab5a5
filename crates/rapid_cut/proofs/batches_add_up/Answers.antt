use Rattle.rapid_cut.proofs.Repeats.{batches_add_up as law}
use Rattle.rapid_cut.proofs.batches_add_up.Goals as goal

pub returns : goal.returns
returns c = law
