use Rattle.std.proofs.Common.{None}
use Rattle.leader_by_height.proofs.Terms.{one_leader}
use Rattle.leader_by_height.proofs.fence.one_leader_acts.Goals as goal

pub returns : goal.returns
returns c = λ all a b h k. one_leader None all a b h k
