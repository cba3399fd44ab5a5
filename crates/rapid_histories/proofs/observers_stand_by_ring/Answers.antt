use Rattle.rapid_histories.proofs.Observing.{observers_stand_by_ring as law}
use Rattle.rapid_histories.proofs.observers_stand_by_ring.Goals as goal

pub returns : goal.returns
returns c = law
