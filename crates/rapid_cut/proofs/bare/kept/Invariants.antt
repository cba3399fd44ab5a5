use Rattle.std.proofs.Common.{◌≡◌, take}
use Rattle.rapid_cut.proofs.bare.kept.Given as goal

abbrev pub invariant-loop-subject : goal.invariant-loop-subject
invariant-loop-subject l = l.kept.items ≡ take l.subject-index l.entries
