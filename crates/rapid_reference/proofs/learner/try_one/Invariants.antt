use Rattle.std.proofs.Common.{◌≡◌}
use Rattle.rapid_reference.proofs.learner.try_one.Given as goal

abbrev pub invariant-loop : goal.invariant-loop
invariant-loop l = l.learner.size ≡ l.size
