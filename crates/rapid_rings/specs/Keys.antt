-- The keys of a process that are kept.
use Rattle.std.specs.Prelude.{◌≡◌, ℕ, ◌<◌, List, length, slice_get, Some}
use Rattle.rapid_model.specs.Process.{Process}
use Rattle.rapid_model.specs.Ring.{ring_key}

-- These are the keys of p on the first rings, by ring.
pub record AreKeysOf (p : Process) (keys : List (List ℕ)) : Type 0 where
  pub by_ring : (k : ℕ) → k < length keys → slice_get keys k ≡ Some (ring_key k p)
