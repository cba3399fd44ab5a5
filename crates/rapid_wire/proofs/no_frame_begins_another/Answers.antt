use Rattle.rapid_wire.proofs.Frames.{no_beginning}
use Rattle.rapid_wire.proofs.no_frame_begins_another.Goals as goal

pub returns : goal.returns
returns c = no_beginning
