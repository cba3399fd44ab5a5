use Rattle.std.proofs.Common.{◌≡◌}
use Rattle.rapid_parts_tests.proofs.vote.recovery.asked.Given as goal

abbrev pub invariant-loop-position : goal.invariant-loop-position
invariant-loop-position l = l.coordinator.size ≡ l.size
