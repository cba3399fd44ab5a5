use Rattle.rapid_alerts.proofs.RingMasks.{ring_or}
use Rattle.rapid_cut.proofs.mask.with.Goals as goal

pub returns : goal.returns
returns c k = ring_or c.args.mask c.args.rings k
