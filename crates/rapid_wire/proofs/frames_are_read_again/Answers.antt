use Rattle.rapid_wire.proofs.Lives.{reads_frames}
use Rattle.rapid_wire.proofs.frames_are_read_again.Goals as goal

pub returns : goal.returns
returns c = reads_frames
