use Rattle.rapid_alerts.proofs.RingMasks.{ring_one}
use Rattle.rapid_alerts.proofs.ring_mask.bit.Goals as goal

pub returns : goal.returns
returns c k = ring_one c.args.ring k c.requires
