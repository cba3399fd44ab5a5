use Rattle.std.proofs.Common.{◌≡◌, ℕ, Some, Contains, slice_get, take}
use Rattle.rapid_roster.proofs.roster.find_among.Given as goal

abbrev pub invariant-loop-place : goal.invariant-loop-place
invariant-loop-place l = (place : ℕ) → Contains (take l.place-index l.places) place → slice_get l.processes place ≡ Some l.process → ⊥
