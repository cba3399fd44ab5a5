-- Settled packets: all up to one, and some above it.
use Rattle.std.specs.Prelude.{◌≡◌, ℕ, ◌+◌, ◌^◌, ◌<◌, false}
use Rattle.std.specs.List.{range_with_len}
use Rattle.std.specs.FinSet as set
use Rattle.std.specs.Ordering.{nat_cmp}

-- The set of all numbers from 1 to one, and of these.
unfoldable pub settled_by : ℕ → set.FinSet nat_cmp → set.FinSet nat_cmp
settled_by n above = set.union (set.from_list (range_with_len 1 n)) above

-- The next number is none of these.
abbrev pub HasGap : ℕ → set.FinSet nat_cmp → Type 0
HasGap n above = n + 1 < 2 ^ 64 → set.contains above (n + 1) ≡ false
