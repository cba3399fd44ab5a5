use Rattle.std.proofs.Common.{◌≡◌, map, take}
use Rattle.std.specs.Prelude.{filter}
use Rattle.rapid_dealing.specs.Owners.{owner_in}
use Rattle.rapid_sharded_map.specs.Stores.{has_store, members_of}
use Rattle.rapid_sharded_map.proofs.stores.deal.Given as goal

abbrev pub invariant-loop-key : goal.invariant-loop-key
invariant-loop-key l =
    (members_of l.stores ≡ filter has_store l.configuration.members)
    × (l.owners.items ≡ map (λ key. owner_in key.now (filter has_store l.configuration.members)) (take l.key-index l.keys))
