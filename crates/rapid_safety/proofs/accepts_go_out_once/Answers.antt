use Rattle.rapid_safety.proofs.Speaking.{accepts_go_out_once as law}
use Rattle.rapid_safety.proofs.accepts_go_out_once.Goals as goal

pub returns : goal.returns
returns c = law
