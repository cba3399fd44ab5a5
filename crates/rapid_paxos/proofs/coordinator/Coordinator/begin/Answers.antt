use Rattle.rapid_paxos.proofs.Coordinating.{nothing_counted}
use Rattle.rapid_paxos.proofs.coordinator.Coordinator.begin.Goals as goal

pub invariant_of-self : goal.invariant_of-self
invariant_of-self c =
    record {
      member = c.self.invariant.member;
      few = c.self.invariant.few;
      counted = nothing_counted c.new.result c.new-self-inside.result c.new.ensures;
      last = c.in-Some.ensures.some.1.to;
    }
