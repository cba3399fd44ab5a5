use Rattle.std.proofs.Common.{◌≡◌, length}
use Rattle.rapid_text.specs.Front.{without_spaces}
use Rattle.rapid_text.proofs.line.without_spaces.Given as goal

abbrev pub invariant-loop-rest : goal.invariant-loop-rest
invariant-loop-rest l = without_spaces l.rest ≡ without_spaces l.line

abbrev pub decreases-loop-rest : goal.decreases-loop-rest
decreases-loop-rest l = length l.rest
