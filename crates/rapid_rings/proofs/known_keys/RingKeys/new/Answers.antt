use Rattle.rapid_rings.proofs.Kept.{keys_by_ring}
use Rattle.rapid_rings.proofs.known_keys.RingKeys.new.Goals as goal

pub invariant_of-result : goal.invariant_of-result
invariant_of-result c = keys_by_ring c.args.process.now c.args.rings c.in_ok-keys.keys.items c.in_ok-keys.ensures
