use Rattle.rapid_safety.proofs.News.{received_were_said as law}
use Rattle.rapid_safety.proofs.received_were_said.Goals as goal

pub returns : goal.returns
returns c = law
