-- What the bits of sixteen words stand for.
use Rattle.std.specs.Prelude.{ℕ, ◌/◌, ◌%◌, Bool, ◌==◌, List, filter, slice_index}
use Rattle.std.specs.List.{range_with_len}
use Rattle.std.specs.Int.{bit_at}
use Rattle.std.specs.Ordering.{nat_cmp}
use Rattle.std.specs.FinSet as set
use Rattle.rapid_model.specs.Limits.{most_members}

-- The bit of a position is set.
abbrev pub has_bit : List ℕ → ℕ → Bool
has_bit words p = bit_at (slice_index words (p / 64)) (p % 64) == 1

-- The positions below 1,024 whose bits are set.
unfoldable pub positions_of : List ℕ → set.FinSet nat_cmp
positions_of words = set.from_list (filter (has_bit words) (range_with_len 0 most_members))
