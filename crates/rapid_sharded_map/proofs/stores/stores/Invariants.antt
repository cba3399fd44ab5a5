use Rattle.std.proofs.Common.{◌≡◌, take}
use Rattle.std.specs.Prelude.{filter}
use Rattle.rapid_sharded_map.specs.Stores.{has_store}
use Rattle.rapid_sharded_map.proofs.stores.stores.Given as goal

abbrev pub invariant-loop-member : goal.invariant-loop-member
invariant-loop-member l = l.stores.items ≡ filter has_store (take l.member-index l.configuration.members)
