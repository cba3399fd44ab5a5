use Rattle.std.proofs.Common.{◌≡◌, ◌++◌, flat_map, take}
use Rattle.rapid_world.specs.Worlds.{running_id}
use Rattle.rapid_world.proofs.lookups.push_all_running.Given as goal

abbrev pub invariant-loop-peer : goal.invariant-loop-peer
invariant-loop-peer l = l.ids.items ≡ l.fn.ids.items ++ flat_map running_id (take l.peer-index l.peers)
