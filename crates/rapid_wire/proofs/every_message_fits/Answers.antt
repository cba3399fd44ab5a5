use Rattle.rapid_wire.proofs.Frames.{message_fits}
use Rattle.rapid_wire.proofs.every_message_fits.Goals as goal

pub returns : goal.returns
returns c = message_fits
