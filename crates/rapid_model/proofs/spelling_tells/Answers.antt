use Rattle.rapid_model.proofs.Spelled.{spelling_tell}
use Rattle.rapid_model.proofs.spelling_tells.Goals as goal

pub returns : goal.returns
returns c = spelling_tell
