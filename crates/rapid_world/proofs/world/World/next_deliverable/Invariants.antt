use Rattle.std.proofs.Common.{◌≡◌, ◌+◌, ◌-◌, length}
use Rattle.std.specs.List.{find, range_with_len}
use Rattle.rapid_model.specs.StoredWorld.{world_of}
use Rattle.rapid_model.specs.World.{can_deliver}
use Rattle.rapid_world.proofs.world.World.next_deliverable.Given as goal

abbrev pub invariant-loop-before : goal.invariant-loop-before
invariant-loop-before l =
    find (can_deliver (world_of l.self)) (range_with_len (l.fn.after + 1) (length (world_of l.self).packets - l.fn.after))
    ≡ find (can_deliver (world_of l.self)) (range_with_len (l.before + 1) (length (world_of l.self).packets - l.before))
