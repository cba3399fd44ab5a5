-- Clauses of public calls cite this file.
-- Masks of rings, a bit for each.
use Rattle.std.specs.Prelude.{ℕ, Bool, ◌&&◌, ◌==◌, List, [], ◌∷◌, ◌++◌, map, nat_lt}
use Rattle.std.specs.List.{range_with_len}
use Rattle.std.specs.Int.{bit_at}
use Rattle.rapid_model.specs.Process.{Process}
use Rattle.rapid_model.specs.Reports.{Report}
use Rattle.rapid_model.specs.Limits.{most_rings}

-- The mask has the bit of the ring.
abbrev pub has_ring : ℕ → ℕ → Bool
has_ring mask k = nat_lt k most_rings && bit_at mask k == 1

-- Each of these processes with each of sixteen rings.
abbrev pub with_rings : List Process → List Report
with_rings [] = []
with_rings (s ∷ ss) = map (λ k. (s, k)) (range_with_len 0 most_rings) ++ with_rings ss
