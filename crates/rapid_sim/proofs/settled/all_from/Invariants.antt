use Rattle.std.proofs.Common.{◌≡◌, ◌-◌, ◌^◌}
use Rattle.rapid_sim.specs.Settling.{settled_by}
use Rattle.rapid_sim.proofs.settled.all_from.Given as goal

abbrev pub invariant-loop-next : goal.invariant-loop-next
invariant-loop-next l = settled_by l.all_to l.above ≡ settled_by l.first l.fn.above

abbrev pub decreases-loop-next : goal.decreases-loop-next
decreases-loop-next l = 2 ^ 64 - l.all_to
