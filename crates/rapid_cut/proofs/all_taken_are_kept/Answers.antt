use Rattle.rapid_cut.proofs.Repeats.{all_taken_are_kept as law}
use Rattle.rapid_cut.proofs.all_taken_are_kept.Goals as goal

pub returns : goal.returns
returns c = law
