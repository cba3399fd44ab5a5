use Rattle.std.proofs.Common.{◌≡◌, take}
use Rattle.rapid_paxos.proofs.notices.NoticeSet.try_copy.Given as goal

abbrev pub invariant-loop-ballot : goal.invariant-loop-ballot
invariant-loop-ballot l = l.entries.items ≡ take l.ballot-index l.self-inside.entries.items
