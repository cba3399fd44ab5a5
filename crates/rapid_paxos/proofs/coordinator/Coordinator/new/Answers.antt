use Rattle.std.proofs.Common.{arith}
use Rattle.rapid_paxos.proofs.Coordinating.{nothing_counted}
use Rattle.rapid_paxos.proofs.coordinator.Coordinator.new.Goals as goal

pub invariant_of-result : goal.invariant_of-result
invariant_of-result c =
    record {
      member = c.requires.member;
      few = c.requires.few;
      counted = nothing_counted c.new-2.result c.new.result c.new-2.ensures;
      last = omega arith;
    }
