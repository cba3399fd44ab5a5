use Rattle.std.proofs.Common.{◌||◌, ap, ◌∙◌}
use Rattle.rapid_alerts.specs.RingMasks.{has_ring}
use Rattle.rapid_alerts.proofs.RingMasks.{ring_or}
use Rattle.rapid_alerts.proofs.mark.with_bit.Goals as goal

pub returns : goal.returns
returns c k = ring_or c.args.mask c.bit.result k ∙ ap (λ b. has_ring c.args.mask k || b) (c.bit.ensures k)
