-- Seats on a ring: members with their keys, in the ring's order.
use Rattle.std.specs.Prelude.{◌≡◌, ℕ, zero, suc, ◌+◌, ◌-◌, ◌<◌, ◌==◌, nat_le, Bool, true, false, ◌&&◌, ◌||◌, if◌then◌else◌, List, [], length, map, filter_map, get_or, slice_get, All, AllPairs, Option, Some, None}
use Rattle.std.specs.Option.{option_map, option_and_then}
use Rattle.std.specs.List.Sorted.{IsSorted}
use Rattle.std.specs.declared.cmp.Ordering.{Ordering}
use Rattle.std.specs.Ordering.{ordering_then, is_lt, eq_by_cmp, nat_cmp}
use Rattle.std.specs.FinSet as set
use Rattle.rapid_model.specs.Process.{Process, bytes_cmp, process_cmp}
use Rattle.rapid_model.specs.Configuration.{Configuration}
use Rattle.rapid_model.specs.Ring.{ring_key}

-- A key and its process.
abbrev pub Seat : Type 0
Seat = List ℕ × Process

-- Seats are ordered by key; ties are broken by process.
abbrev pub seat_cmp : Seat → Seat → Ordering
seat_cmp x y = ordering_then (bytes_cmp x.0 y.0) (process_cmp x.1 y.1)

-- Two seats are the same.
abbrev pub same_seat : Seat → Seat → Bool
same_seat = eq_by_cmp seat_cmp

-- x is before y.
abbrev pub is_below : Seat → Seat → Bool
is_below x y = is_lt (seat_cmp x y)

-- A set of seats.
abbrev pub Seats : Type 0
Seats = set.FinSet seat_cmp

-- The seat of a process on ring k.
abbrev pub seat : ℕ → Process → Seat
seat k p = (ring_key k p, p)

-- The seats of these processes on ring k.
unfoldable pub seats_of : ℕ → List Process → Seats
seats_of k ps = set.from_list (map (seat k) ps)

-- A key, and the place of its member in the configuration.
abbrev pub Placed : Type 0
Placed = List ℕ × ℕ

-- They are ordered by key; ties are broken by place.
abbrev pub placed_cmp : Placed → Placed → Ordering
placed_cmp x y = ordering_then (bytes_cmp x.0 y.0) (nat_cmp x.1 y.1)

-- None is below the one before it.
abbrev pub PlacedAscend : List Placed → Type 0
PlacedAscend = IsSorted placed_cmp

-- The key on ring k of the member at a place.
abbrev pub placed : ℕ → List Process → ℕ → Placed
placed k ms p = (ring_key k (get_or ms p []), p)

-- A key with its member.
abbrev pub with_member : List Process → Placed → Seat
with_member ms x = (x.0, get_or ms x.1 [])

-- The seats of members that are named by their places.
abbrev pub seated : List Process → List Placed → List Seat
seated ms xs = map (with_member ms) xs

-- The member at a place is below s.
abbrev pub is_member_below : Option Process → Seat → List ℕ → Bool
is_member_below None s key = false
is_member_below (Some m) s key = is_lt (seat_cmp (key, m) s)

-- The seat of a member is below s.
abbrev pub member_below : List Process → Seat → Placed → Bool
member_below ms s x = is_member_below (slice_get ms x.1) s x.0

-- The member at a place, if there is one.
abbrev pub member_if_any : List Process → Option ℕ → Option Process
member_if_any ms place = option_and_then (slice_get ms) place

-- The place of the member in the i-th seat.
abbrev pub place_at : List Placed → ℕ → Option ℕ
place_at xs i = option_map (λ x. x.1) (slice_get xs i)

-- The same, unless it is p.
abbrev pub other_at : List Placed → ℕ → ℕ → Option ℕ
other_at xs i p = option_and_then (λ q. if q == p then None else Some q) (place_at xs i)

-- The rank before another among n, going round.
abbrev pub rank_before : ℕ → ℕ → ℕ
rank_before zero n = n - 1
rank_before (suc i) n = i

-- The rank after another among n, going round.
abbrev pub rank_after : ℕ → ℕ → ℕ
rank_after i n = if nat_le (n - 1) i then 0 else i + 1

-- In the seat that has the rank of a place the member at that place sits.
abbrev pub AreRanks : List Placed → List ℕ → Type 0
AreRanks xs ranks = (i p : ℕ) → place_at xs i ≡ Some p → option_and_then (place_at xs) (slice_get ranks p) ≡ Some p

-- These are the seats of the members on ring k, each once and in order.
pub record IsOrder (k : ℕ) (ms : List Process) (xs : List Placed) : Type 0 where
  pub places : All (λ x. x.1 < length ms) xs
  pub ascend : AllPairs (λ x y. is_below x y ≡ true) (seated ms xs)
  pub seats : set.from_list (seated ms xs) ≡ seats_of k ms

-- What rings keep.
pub record HasRings (c : Configuration) (rings : List (List Placed)) : Type 0 where
  pub count : length rings ≡ c.params.k
  pub orders : (k : ℕ) (d : List Placed) → k < length rings → IsOrder k c.members (get_or rings k d)

-- The place in the next configuration of the member at a place.
abbrev pub move_to : List (Option ℕ) → ℕ → Option ℕ
move_to places p = get_or places p None

-- The keys of those that have a place there, with it.
abbrev pub moved : List (Option ℕ) → List Placed → List Placed
moved places xs = filter_map (λ x. option_map (λ p. (x.0, p)) (move_to places x.1)) xs

-- Going round upwards from x, y is met before z.
abbrev pub sits_between : Seat → Seat → Seat → Bool
sits_between x y z = (is_below x y && is_below y z) || (is_below y z && is_below z x) || (is_below z x && is_below x y)

-- No seat is below the one before it.
abbrev pub Ascend : List Seat → Type 0
Ascend = IsSorted seat_cmp

-- The seat next before s, going round: none is between them. There is none if no seat but s is there.
abbrev pub IsNextBefore : Seats → Seat → Option Seat → Type 0
IsNextBefore r s None = (q : Seat) → set.contains r q ≡ true → same_seat q s ≡ true
IsNextBefore r s (Some x) = (set.contains r x ≡ true) × (same_seat x s ≡ false) × ((q : Seat) → set.contains r q ≡ true → sits_between x q s ≡ false)

-- The seat next after s, going round: none is between them. There is none if no seat but s is there.
abbrev pub IsNextAfter : Seats → Seat → Option Seat → Type 0
IsNextAfter r s None = (q : Seat) → set.contains r q ≡ true → same_seat q s ≡ true
IsNextAfter r s (Some x) = (set.contains r x ≡ true) × (same_seat x s ≡ false) × ((q : Seat) → set.contains r q ≡ true → sits_between s q x ≡ false)
