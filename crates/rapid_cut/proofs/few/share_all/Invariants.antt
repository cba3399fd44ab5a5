use Rattle.std.proofs.Common.{◌≡◌, ◌++◌, take}
use Rattle.rapid_cut.proofs.few.share_all.Given as goal

abbrev pub invariant-loop-subject : goal.invariant-loop-subject
invariant-loop-subject l = l.copy.items ≡ l.fn.copy.items ++ take l.subject-index l.entries
