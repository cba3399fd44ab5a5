use Rattle.rapid_cut.proofs.Repeats.{same_alerts}
use Rattle.rapid_cut.proofs.order_and_repeats_change_nothing.Goals as goal

pub returns : goal.returns
returns c = same_alerts
