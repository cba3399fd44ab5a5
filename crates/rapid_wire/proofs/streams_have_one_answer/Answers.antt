use Rattle.std.proofs.Common.{refl}
use Rattle.rapid_wire.proofs.Unique.{one_answer}
use Rattle.rapid_wire.proofs.streams_have_one_answer.Goals as goal

pub returns : goal.returns
returns c = λ bytes ms ns one other s t. one_answer bytes bytes ms ns one other s t refl
