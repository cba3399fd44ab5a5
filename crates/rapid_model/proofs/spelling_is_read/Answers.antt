use Rattle.rapid_model.proofs.Spelled.{spelling_read}
use Rattle.rapid_model.proofs.spelling_is_read.Goals as goal

pub returns : goal.returns
returns c = spelling_read
