use Rattle.rapid_model.proofs.Spelled.{spelling_one}
use Rattle.rapid_model.proofs.spelling_is_one.Goals as goal

pub returns : goal.returns
returns c = spelling_one
