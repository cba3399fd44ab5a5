use Rattle.std.proofs.Common.{◌≡◌, map, ◌≤◌}
use Rattle.std.specs.List.{range_with_len}
use Rattle.rapid_monitor.specs.Slots.{slot_for}
use Rattle.rapid_monitor.proofs.monitors.fresh_slots.Given as goal

abbrev pub invariant-loop-ring : goal.invariant-loop-ring
invariant-loop-ring l =
    record {
      within : l.ring ≤ l.rings;
      made : l.slots.items ≡ map (slot_for l.subjects) (range_with_len 0 l.ring);
    }
