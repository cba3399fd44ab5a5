use Rattle.std.proofs.Common.{◌≡◌, take}
use Rattle.rapid_member.proofs.decisions.copy_all.Given as goal

abbrev pub invariant-loop-id : goal.invariant-loop-id
invariant-loop-id l = l.copy.items ≡ take l.id-index l.decisions
