use Rattle.rapid_cut.proofs.Masks.{ring_and_not}
use Rattle.rapid_cut.proofs.mask.without.Goals as goal

pub returns : goal.returns
returns c k = ring_and_not c.args.mask c.args.rings k c.ranges.rings.fits
