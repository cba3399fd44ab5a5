use Rattle.rapid_agreement.proofs.Meets.{one_reaches}
use Rattle.rapid_agreement.proofs.one_value_reaches_threshold.Goals as goal

pub returns : goal.returns
returns g c = one_reaches
