use Rattle.rapid_cluster.proofs.Driving.{goes_on}
use Rattle.rapid_cluster.proofs.cluster.Driven.turn.Goals as goal

pub invariant_of-self : goal.invariant_of-self
invariant_of-self g c =
    goes_on g.A.Asked.params g.A.Asked.nodes c.self.inside.book c.step.new.self c.step.result _ c.self.invariant c.step.ensures.done c.step.ensures.unchanged
