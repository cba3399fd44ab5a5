use Rattle.rapid_wire.proofs.Lives.{answers_the_stream}
use Rattle.rapid_wire.proofs.feeds_answer_their_stream.Goals as goal

pub returns : goal.returns
returns c = answers_the_stream
