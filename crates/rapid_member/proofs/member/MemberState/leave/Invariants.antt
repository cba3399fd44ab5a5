use Rattle.std.proofs.Common.{◌≡◌, ◌++◌, flat_map}
use Rattle.std.specs.List.{range_with_len}
use Rattle.rapid_model.specs.Ring.{observers_of}
use Rattle.rapid_model.specs.Member.{leave_to}
use Rattle.rapid_model.specs.Node.{outputs}
use Rattle.rapid_member.proofs.member.MemberState.leave.Given as goal

abbrev pub invariant-loop-ring : goal.invariant-loop-ring
invariant-loop-ring l =
    l.out.items
    ≡ l.fn.out.items ++ outputs l.self.me (flat_map (λ k. leave_to l.self k ((observers_of l.self.config).observer k l.self.me)) (range_with_len 0 l.ring))
