use Rattle.std.proofs.Common.{◌≡◌, map}
use Rattle.std.specs.List.{range_with_len}
use Rattle.rapid_model.specs.Ring.{ring_key}
use Rattle.rapid_rings.proofs.known_keys.keys_of.Given as goal

abbrev pub invariant-loop-ring : goal.invariant-loop-ring
invariant-loop-ring l = l.keys.items ≡ map (λ k. ring_key k l.process) (range_with_len 0 l.ring)
