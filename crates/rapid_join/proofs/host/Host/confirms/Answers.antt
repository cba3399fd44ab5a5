use Rattle.rapid_join.proofs.Waiting.{none_few}
use Rattle.rapid_join.proofs.host.Host.confirms.Goals as goal

pub invariant_of-self : goal.invariant_of-self
invariant_of-self c = (c.self.invariant.0, none_few c.clear.new.self c.clear.ensures)
