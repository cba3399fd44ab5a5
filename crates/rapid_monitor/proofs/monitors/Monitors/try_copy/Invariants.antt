use Rattle.std.proofs.Common.{◌≡◌, take}
use Rattle.rapid_monitor.proofs.monitors.Monitors.try_copy.Given as goal

abbrev pub invariant-loop-slot : goal.invariant-loop-slot
invariant-loop-slot l = l.edges.items ≡ take l.slot-index l.slots
