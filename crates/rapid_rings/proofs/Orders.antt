-- The seats on a ring, with members named by their places.
use Rattle.std.proofs.Common.{◌≡◌, ℕ, zero, suc, ◌+◌, ◌-◌, ◌<◌, ◌≤◌, ◌==◌, Bool, true, false, cond, List, [], ◌∷◌, length, get_or, slice_get, refl, sym, ap, subst, ◌∙◌, Option, Some, None, inl, inr, arith, ne_eqb, eq-eqb, le-leb, add-one}
use Rattle.std.specs.Prelude.{position, is_some}
use Rattle.std.specs.Option.{option_map, option_and_then, option_eq}
use Rattle.std.specs.List.{find}
use Rattle.std.specs.List.Sorted.{IsPartitionPoint, IsPartitionedBy}
use Rattle.std.specs.declared.cmp.Ordering.TheVariants.{Less, Equal, Greater}
use Rattle.std.specs.Ordering.{nat_cmp, ordering_then, ordering_reverse}
use Rattle.std.specs.Cmp.{tied_itself}
use Rattle.std.specs.FinSet as set
use Rattle.std.proofs.lemmas.Bool.{cases_lt, cases_eq, cases_order, lt-ltb, lt-leb}
use Rattle.std.proofs.lemmas.Cmp.{nat_cmp_total}
use Rattle.std.proofs.lemmas.List.{length-map, get_or-map}
use Rattle.std.proofs.lemmas.Option.{slice_get-get_or}
use Rattle.rapid_model.specs.Process.{Process, bytes_cmp, process_cmp, identifier, same_bytes, is_in}
use Rattle.rapid_model.specs.Configuration.{identifiers_ascend}
use Rattle.rapid_model.specs.Ring.{ring_observer}
use Rattle.rapid_model.proofs.Orders.{processes_total, same_bytes_decides}
use Rattle.rapid_endpoint.proofs.Ascents.{is_lt_trans}
use Rattle.rapid_config.proofs.Ascending.{later_less, below_by_identifier, flipped}
use Rattle.rapid_config.proofs.Places.{any_at, in_by_place}
use Rattle.rapid_rings.specs.Seats.{Seat, Placed, seat, seats_of, seat_cmp, same_seat, is_below, placed_cmp, with_member, is_member_below, member_below, member_if_any, place_at, other_at, rank_before, rank_after, IsOrder, Ascend, IsNextBefore, IsNextAfter}
use Rattle.rapid_rings.specs.Seats as seats
use Rattle.rapid_rings.proofs.Sets.{own}
use Rattle.rapid_rings.proofs.Rounds.{seats_total, apart, contains-seats, seated, seats_have, own_seat, observer_in_seat}
use Rattle.rapid_rings.proofs.Subjects.{subject_in_seat, turned_apart}
use Rattle.rapid_rings.proofs.Stretches.{rise_ascends, rise_apart, stands, held, none_between, never_falls}

-- ---- members at places

less_at : (ms : List Process) (p q : ℕ) → identifiers_ascend ms ≡ true → p < q → q < length ms → process_cmp (get_or ms p []) (get_or ms q []) ≡ Less
less_at ms p q up l m =
    below_by_identifier (get_or ms p []) (get_or ms q [])
    (later_less (λ x y. bytes_cmp (identifier x) (identifier y)) identifiers_ascend (λ _ _. refl) ms up p q [] l m)

-- one process is at one place
pub one_place : (ms : List Process) (p q : ℕ) → identifiers_ascend ms ≡ true → p < length ms → q < length ms → get_or ms p [] ≡ get_or ms q [] → p ≡ q
one_place ms p q up l m e =
    elim (cases_order p q) [
      | inl same ↦ same
      | inr (inl below) ↦ absurd (other (get_or ms p []) (get_or ms q []) e (less_at ms p q up below m))
      | inr (inr above) ↦ absurd (other (get_or ms q []) (get_or ms p []) (sym e) (less_at ms q p up above l))
    ]
  where
    other : (a b : Process) → a ≡ b → process_cmp a b ≡ Less → ⊥
    other a b same less =
        let no : Equal ≡ Less = sym (tied_itself processes_total a) ∙ ap (process_cmp a) same ∙ less in
        cc

nat_less : (p q : ℕ) → p < q → nat_cmp p q ≡ Less
nat_less p q l = ap (λ b. cond b Less (cond (p == q) Equal Greater)) (lt-ltb p q l)

-- members ascend as their places do
pub same_order : (ms : List Process) (x y : Placed) → identifiers_ascend ms ≡ true → x.1 < length ms → y.1 < length ms → placed_cmp x y ≡ seat_cmp (with_member ms x) (with_member ms y)
same_order ms x y up l m = ap (ordering_then (bytes_cmp x.0 y.0)) (by_place x.1 y.1 l m)
  where
    by_place : (p q : ℕ) → p < length ms → q < length ms → nat_cmp p q ≡ process_cmp (get_or ms p []) (get_or ms q [])
    by_place p q l m =
        elim (cases_order p q) [
          | inl same ↦ subst (λ n. nat_cmp p n ≡ process_cmp (get_or ms p []) (get_or ms n [])) same (tied_itself nat_cmp_total p ∙ sym (tied_itself processes_total (get_or ms p [])))
          | inr (inl below) ↦ nat_less p q below ∙ sym (less_at ms p q up below m)
          | inr (inr above) ↦
              nat_cmp_total.antisymm p q ∙ ap ordering_reverse (nat_less q p above)
              ∙ sym (flipped (get_or ms q []) (get_or ms p []) Less (less_at ms q p up above l))
        ]

-- ---- seats at places

-- the seat at a rank, and its place
pub place_is : (xs : List Placed) (i p : ℕ) → place_at xs i ≡ Some p → (i < length xs) × ((d : Placed) → (get_or xs i d).1 ≡ p)
place_is [] i p h = cc
place_is (x ∷ xs) zero p h = (omega arith, λ d. inside h)
  where
    inside : {a b : ℕ} → ◌≡◌ {A = Option ℕ} (Some a) (Some b) → a ≡ b
    inside e = cc
place_is (x ∷ xs) (suc i) p h = let rest = place_is xs i p h in (omega (arith, rest.0), rest.1)

pub place_read : (xs : List Placed) (i : ℕ) (d : Placed) → i < length xs → place_at xs i ≡ Some (get_or xs i d).1
place_read xs i d l = ap (option_map (λ (x : Placed). x.1)) (slice_get-get_or xs i d l)

-- the default seat
abbrev pub nobody : Seat
nobody = ([], [])

abbrev pub none_placed : Placed
none_placed = ([], 0)

-- the i-th seat is that of the member whose place it has
pub sits : (k : ℕ) (ms : List Process) (xs : List Placed) (i p : ℕ) → IsOrder k ms xs → place_at xs i ≡ Some p
    → (i < length (seats.seated ms xs)) × (p < length ms) × (get_or (seats.seated ms xs) i nobody ≡ seat k (get_or ms p []))
sits k ms xs i p order h =
    let at = place_is xs i p h in
    let within : i < length (seats.seated ms xs) = subst (λ n. i < n) (sym (length-map xs (with_member ms))) at.0 in
    let y = get_or (seats.seated ms xs) i nobody in
    let process : y.1 ≡ get_or ms p [] = ap (λ (z : Seat). z.1) (get_or-map (with_member ms) xs i none_placed nobody at.0) ∙ ap (λ n. get_or ms n []) (at.1 none_placed) in
    let own_one = seated k ms y (sym (contains-seats k ms y) ∙ ap (λ r. set.contains r y) (sym order.seats) ∙ held (seats.seated ms xs) y i nobody within refl) in
    (within, subst (λ n. n < length ms) (at.1 none_placed) (order.places i none_placed at.0), own_one.0 ∙ ap (seat k) process)

-- the member at a place
pub member_is : (ms : List Process) (i : ℕ) (m : Process) → slice_get ms i ≡ Some m → (i < length ms) × ((d : Process) → get_or ms i d ≡ m)
member_is [] i m h = cc
member_is (x ∷ ms) zero m h = (omega arith, λ d. inside h)
  where
    inside : {a b : Process} → ◌≡◌ {A = Option Process} (Some a) (Some b) → a ≡ b
    inside e = cc
member_is (x ∷ ms) (suc i) m h = let rest = member_is ms i m h in (omega (arith, rest.0), rest.1)

-- each member has a seat
pub has_seat : (k : ℕ) (ms : List Process) (xs : List Placed) (p : ℕ) (m : Process) → IsOrder k ms xs → identifiers_ascend ms ≡ true → slice_get ms p ≡ Some m → (i : ℕ) × (place_at xs i ≡ Some p)
has_seat k ms xs p m order up h =
    let read = member_is ms p m h in
    let there : is_in ms m ≡ true = any_at (same_bytes m) ms p [] read.0 (subst (λ q. same_bytes m q ≡ true) (sym (read.1 [])) (own m)) in
    let at = stands (seats.seated ms xs) (seat k m) (ap (λ r. set.contains r (seat k m)) order.seats ∙ contains-seats k ms (seat k m) ∙ seats_have k ms m there) in
    let within : at.0 < length xs = subst (λ n. at.0 < n) (length-map xs (with_member ms)) at.1 in
    let q = (get_or xs at.0 none_placed).1 in
    let same : get_or ms q [] ≡ m = ap (λ (z : Seat). z.1) (sym (get_or-map (with_member ms) xs at.0 none_placed nobody within) ∙ at.2 nobody) in
    (at.0, place_read xs at.0 none_placed within ∙ ap Some (one_place ms q p up (order.places at.0 none_placed within) read.0 (same ∙ sym (read.1 []))))

-- ---- what the members observe

-- the seats at two ranks, of which the first is the one before the second, going round
record Neighbours (k : ℕ) (ms : List Process) (xs : List Placed) (i j p q : ℕ) : Type 0 where
  order : IsOrder k ms xs
  up : identifiers_ascend ms ≡ true
  first : place_at xs i ≡ Some q
  second : place_at xs j ≡ Some p
  before : i ≡ rank_before j (length xs)

both_moved : (f : Seat → Seat → Bool) (a b c d : Seat) (r : Bool) → a ≡ c → b ≡ d → f a b ≡ r → f c d ≡ r
both_moved f a b c d r e g h = sym (λ i. f (e i) (g i)) ∙ h

seat_apart : (k : ℕ) (ms : List Process) (xs : List Placed) (i j p q : ℕ) → Neighbours k ms xs i j p q → (i ≡ j → ⊥) → same_seat (seat k (get_or ms q [])) (seat k (get_or ms p [])) ≡ false
seat_apart k ms xs i j p q n ne =
    let x = sits k ms xs i q n.order n.first in
    let y = sits k ms xs j p n.order n.second in
    elim (cases_order i j) [
      | inl same ↦ absurd (ne same)
      | inr (inl below) ↦ both_moved same_seat _ _ _ _ false x.2 y.2 (rise_apart (seats.seated ms xs) n.order.ascend i j nobody below y.0)
      | inr (inr above) ↦ turned_apart (seat k (get_or ms p [])) (seat k (get_or ms q [])) (both_moved same_seat _ _ _ _ false y.2 x.2 (rise_apart (seats.seated ms xs) n.order.ascend j i nobody above x.0))
    ]

place_apart : (k : ℕ) (ms : List Process) (xs : List Placed) (i j p q : ℕ) → Neighbours k ms xs i j p q → (i ≡ j → ⊥) → (q ≡ p → ⊥)
place_apart k ms xs i j p q n ne e =
    let no : true ≡ false = sym (own_seat (seat k (get_or ms p []))) ∙ ap (λ m. same_seat (seat k (get_or ms m [])) (seat k (get_or ms p []))) (sym e) ∙ seat_apart k ms xs i j p q n ne in
    cc

long_seated : (ms : List Process) (xs : List Placed) → length (seats.seated ms xs) ≡ length xs
long_seated ms xs = length-map xs (with_member ms)

-- none is between neighbours
between_neighbours : (k : ℕ) (ms : List Process) (xs : List Placed) (i j p q : ℕ) → Neighbours k ms xs i j p q
    → (s : Seat) → set.contains (seats_of k ms) s ≡ true → seats.sits_between (seat k (get_or ms q [])) s (seat k (get_or ms p [])) ≡ false
between_neighbours k ms xs i j p q n s there =
    let x = sits k ms xs i q n.order n.first in
    let y = sits k ms xs j p n.order n.second in
    let ys : List Seat = seats.seated ms xs in
    let up : Ascend ys = rise_ascends ys n.order.ascend in
    let at : i ≡ rank_before j (length ys) = n.before ∙ ap (rank_before j) (sym (long_seated ms xs)) in
    let free =
    none_between ys (get_or ys j nobody) j nobody up (omega (arith, y.0)) (omega (arith, y.0))
    (λ k l. n.order.ascend k j nobody l y.0) (λ k l m. never_falls ys up j k nobody l m) s (ap (λ r. set.contains r s) n.order.seats ∙ there) in
    both_moved (λ a b. seats.sits_between a s b) _ _ _ _ false (ap (λ m. get_or ys m nobody) (sym at) ∙ x.2) y.2 free

in_seats : (k : ℕ) (ms : List Process) (p : ℕ) → p < length ms → set.contains (seats_of k ms) (seat k (get_or ms p [])) ≡ true
in_seats k ms p l = contains-seats k ms (seat k (get_or ms p [])) ∙ seats_have k ms (get_or ms p []) (any_at (same_bytes (get_or ms p [])) ms p [] l (own (get_or ms p [])))

-- a member alone
alone : (k : ℕ) (ms : List Process) (xs : List Placed) (i j p q : ℕ) → Neighbours k ms xs i j p q → i ≡ j → (s : Seat) → set.contains (seats_of k ms) s ≡ true → same_seat s (seat k (get_or ms p [])) ≡ true
alone k ms xs i j p q n e s there =
    let y = sits k ms xs j p n.order n.second in
    let ys : List Seat = seats.seated ms xs in
    let at = stands ys s (ap (λ r. set.contains r s) n.order.seats ∙ there) in
    let one = only i j (length ys) (n.before ∙ ap (rank_before j) (sym (long_seated ms xs))) e y.0 in
    let here : at.0 ≡ j = omega (arith, at.1, one.0, one.1) in
    let same : s ≡ seat k (get_or ms p []) = sym (at.2 nobody) ∙ ap (λ m. get_or ys m nobody) here ∙ y.2 in
    subst (λ z. same_seat s z ≡ true) same (own_seat s)
  where
    only : (i j n : ℕ) → i ≡ rank_before j n → i ≡ j → j < n → (n ≡ 1) × (j ≡ 0)
    only i zero n at e l = (omega (arith, at, e, l), refl)
    only i (suc j) n at e l = absurd (omega (arith, at, e))

other_is : (q p : ℕ) → (q ≡ p → ⊥) → cond (q == p) None (Some q) ≡ Some q
other_is q p ne = ap (λ b. cond b None (Some q)) (ne_eqb q p ne)

other_none : (q p : ℕ) → q ≡ p → cond (q == p) None (Some q) ≡ None
other_none q p e = ap (λ b. cond b None (Some q)) (eq-eqb q p e)

member_read : (ms : List Process) (q : ℕ) → q < length ms → slice_get ms q ≡ Some (get_or ms q [])
member_read ms q l = slice_get-get_or ms q [] l

-- a member is observed by the one in the seat before its own
pub observer_before : (k : ℕ) (ms : List Process) (xs : List Placed) (j p : ℕ) → IsOrder k ms xs → identifiers_ascend ms ≡ true → place_at xs j ≡ Some p
    → member_if_any ms (other_at xs (rank_before j (length xs)) p) ≡ ring_observer ms k (get_or ms p [])
observer_before k ms xs j p order up second =
    let i = rank_before j (length xs) in
    let within = place_is xs j p second in
    let q = (get_or xs i none_placed).1 in
    let first : place_at xs i ≡ Some q = place_read xs i none_placed (back j (length xs) within.0) in
    let n : Neighbours k ms xs i j p q = record { order = order; up = up; first = first; second = second; before = refl } in
    let x = sits k ms xs i q order first in
    ap (λ o. member_if_any ms (option_and_then (λ q. cond (q == p) None (Some q)) o)) first
    ∙ elim (cases_eq i j) [
      | inl e ↦
          ap (member_if_any ms) (other_none q p (inside (sym first ∙ ap (place_at xs) e ∙ second)))
          ∙ observer_in_seat k ms (get_or ms p []) None (alone k ms xs i j p q n e)
      | inr ne ↦
          ap (member_if_any ms) (other_is q p (place_apart k ms xs i j p q n ne))
          ∙ member_read ms q x.1
          ∙ observer_in_seat k ms (get_or ms p []) (Some (seat k (get_or ms q []))) (in_seats k ms q x.1, seat_apart k ms xs i j p q n ne, between_neighbours k ms xs i j p q n)
    ]
  where
    back : (j n : ℕ) → j < n → rank_before j n < n
    back zero n l = omega (arith, l)
    back (suc j) n l = omega (arith, l)

    inside : {a b : ℕ} → ◌≡◌ {A = Option ℕ} (Some a) (Some b) → a ≡ b
    inside e = cc

-- a member observes the one in the seat after its own
pub subject_after : (k : ℕ) (ms : List Process) (xs : List Placed) (i q : ℕ) → IsOrder k ms xs → identifiers_ascend ms ≡ true → place_at xs i ≡ Some q
    → member_if_any ms (other_at xs (rank_after i (length xs)) q) ≡ find (λ m. option_eq same_bytes (ring_observer ms k m) (Some (get_or ms q []))) ms
subject_after k ms xs i q order up first =
    let j = rank_after i (length xs) in
    let within = place_is xs i q first in
    let round = on i (length xs) within.0 in
    let p = (get_or xs j none_placed).1 in
    let second : place_at xs j ≡ Some p = place_read xs j none_placed round.0 in
    let n : Neighbours k ms xs i j p q = record { order = order; up = up; first = first; second = second; before = round.1 } in
    let x = sits k ms xs i q order first in
    let y = sits k ms xs j p order second in
    let there : is_in ms (get_or ms q []) ≡ true = any_at (same_bytes (get_or ms q [])) ms q [] x.1 (own (get_or ms q [])) in
    ap (λ o. member_if_any ms (option_and_then (λ p. cond (p == q) None (Some p)) o)) second
    ∙ elim (cases_eq i j) [
      | inl e ↦
          let same : p ≡ q = inside (sym second ∙ ap (place_at xs) (sym e) ∙ first) in
          ap (member_if_any ms) (other_none p q same)
          ∙ subject_in_seat k ms (get_or ms q []) None there (λ s at. subst (λ m. same_seat s (seat k (get_or ms m [])) ≡ true) same (alone k ms xs i j p q n e s at))
      | inr ne ↦
          ap (member_if_any ms) (other_is p q (λ e. place_apart k ms xs i j p q n ne (sym e)))
          ∙ member_read ms p y.1
          ∙ subject_in_seat k ms (get_or ms q []) (Some (seat k (get_or ms p []))) there
          (in_seats k ms p y.1, turned_apart (seat k (get_or ms q [])) (seat k (get_or ms p [])) (seat_apart k ms xs i j p q n ne), between_neighbours k ms xs i j p q n)
    ]
  where
    on : (i n : ℕ) → i < n → (rank_after i n < n) × (i ≡ rank_before (rank_after i n) n)
    on i n l =
        elim (cases_lt i (n - 1)) [
          | inl below ↦
              let e : rank_after i n ≡ i + 1 = ap (λ b. cond b 0 (i + 1)) (lt-leb (n - 1) i below) in
              (omega (arith, e, below), sym (ap (λ j. rank_before j n) (e ∙ add-one i)))
          | inr last ↦
              let e : rank_after i n ≡ 0 = ap (λ b. cond b 0 (i + 1)) (le-leb (n - 1) i last) in
              let there : i ≡ n - 1 = omega (arith, l, last) in
              (omega (arith, e, l), there ∙ sym (ap (λ j. rank_before j n) e))
        ]

    inside : {a b : ℕ} → ◌≡◌ {A = Option ℕ} (Some a) (Some b) → a ≡ b
    inside e = cc

-- ---- who observes a process that is no member

below_is : (ms : List Process) (s : Seat) (x : Placed) → x.1 < length ms → member_below ms s x ≡ is_below (with_member ms x) s
below_is ms s x l = ap (λ o. is_member_below o s x.0) (slice_get-get_or ms x.1 [] l)

-- the same of the seat at a rank
below_at : (k : ℕ) (ms : List Process) (xs : List Placed) (s : Seat) (i : ℕ) (d : Placed) → IsOrder k ms xs → i < length xs → member_below ms s (get_or xs i d) ≡ is_below (get_or (seats.seated ms xs) i nobody) s
below_at k ms xs s i d order l =
    below_is ms s (get_or xs i d) (order.places i d l) ∙ ap (λ y. is_below y s) (sym (get_or-map (with_member ms) xs i d nobody l))

-- those below come first
pub below_first : (k : ℕ) (ms : List Process) (xs : List Placed) (s : Seat) → IsOrder k ms xs → IsPartitionedBy (λ x. member_below ms s x) xs
below_first k ms xs s order i j d le l h =
    below_at k ms xs s i d order (omega (arith, le, l))
    ∙ elim (cases_lt i j) [
      | inl less ↦
          is_lt_trans seats_total (get_or ys i nobody) (get_or ys j nobody) s
          (order.ascend i j nobody less (subst (λ n. j < n) (sym (long_seated ms xs)) l))
          (sym (below_at k ms xs s j d order l) ∙ h)
      | inr same ↦
          let e : i ≡ j = omega (arith, le, same) in
          ap (λ n. is_below (get_or ys n nobody) s) e ∙ sym (below_at k ms xs s j d order l) ∙ h
    ]
  where
    ys : List Seat
    ys = seats.seated ms xs

not_member : (ms : List Process) (p q : Process) → position (same_bytes p) ms ≡ None → is_in ms q ≡ true → same_bytes q p ≡ false
not_member ms p q none there =
    elim (same_bytes q p) as (λ b. same_bytes q p ≡ b → b ≡ false) [
      | true ↦ λ e.
          let out : is_in ms p ≡ false = sym (in_by_place (same_bytes p) ms) ∙ ap is_some none in
          let no : true ≡ false = sym there ∙ ap (is_in ms) ((same_bytes_decides q p).0 e) ∙ out in
          cc
      | false ↦ λ e. refl
    ] refl

pub observer_of_stranger : (k : ℕ) (ms : List Process) (xs : List Placed) (c : ℕ) (p : Process) → IsOrder k ms xs → position (same_bytes p) ms ≡ None → c ≤ length xs
    → IsPartitionPoint (λ x. member_below ms (seat k p) x ≡ true) (λ x. member_below ms (seat k p) x ≡ false) xs c
    → member_if_any ms (place_at xs (rank_before c (length xs))) ≡ ring_observer ms k p
observer_of_stranger k ms [] c p order none le point =
    observer_in_seat k ms p None (λ q there.
    let at = stands [] q (ap (λ r. set.contains r q) order.seats ∙ there) in
    absurd (omega (arith, at.1)))
observer_of_stranger k ms (x ∷ xs) c p order none le point =
    let i = rank_before c (length all) in
    let l : i < length all = back c (length all) le (omega arith) in
    let q = (get_or all i none_placed).1 in
    let first : place_at all i ≡ Some q = place_read all i none_placed l in
    let at = sits k ms all i q order first in
    let here : i ≡ rank_before c (length ys) = ap (rank_before c) (sym (long_seated ms all)) in
    let m = get_or ms q [] in
    let long : length ys ≡ length all = long_seated ms all in
    let there : is_in ms m ≡ true = any_at (same_bytes m) ms q [] at.1 (own m) in
    let free = none_between ys (seat k p) c nobody (rise_ascends ys order.ascend) (omega (arith, at.0)) (omega (arith, long, le))
    (λ j h. sym (below_at k ms all (seat k p) j none_placed order (omega (arith, h, le))) ∙ point.0 j none_placed (omega arith) h)
    (λ j h l. sym (below_at k ms all (seat k p) j none_placed order (omega (arith, l, long))) ∙ point.1 j none_placed h (omega (arith, l, long))) in
    ap (member_if_any ms) first ∙ member_read ms q at.1
    ∙ observer_in_seat k ms p (Some (seat k m)) (in_seats k ms q at.1, apart k m p (not_member ms p m none there), λ s h. ap (λ a. seats.sits_between a s (seat k p)) (sym (ap (λ j. get_or ys j nobody) (sym here) ∙ at.2)) ∙ free s (ap (λ r. set.contains r s) order.seats ∙ h))
  where
    all : List Placed
    all = x ∷ xs

    ys : List Seat
    ys = seats.seated ms all

    back : (c n : ℕ) → c ≤ n → 0 < n → rank_before c n < n
    back zero n le l = omega (arith, l)
    back (suc c) n le l = omega (arith, le)

-- ---- ranks

-- the ranks of the first i seats are noted
abbrev pub Noted : List Placed → List ℕ → ℕ → Type 0
Noted xs ranks i = (j p : ℕ) → j < i → place_at xs j ≡ Some p → option_and_then (place_at xs) (slice_get ranks p) ≡ Some p

-- a seat that is found by its rank
pub ranked_at : (xs kept : List Placed) (ranks : List ℕ) (p r i : ℕ) → seats.AreRanks kept ranks → kept ≡ xs → slice_get ranks p ≡ Some r → place_at xs i ≡ Some p → place_at xs r ≡ Some p
ranked_at xs kept ranks p r i h e read there =
    ap (λ (o : Option ℕ). option_and_then (place_at xs) o) (sym read)
    ∙ ap (λ (ys : List Placed). option_and_then (place_at ys) (slice_get ranks p)) (sym e)
    ∙ h i p (ap (λ (ys : List Placed). place_at ys i) e ∙ there)

pub never_unranked : (xs kept : List Placed) (ranks : List ℕ) (p i : ℕ) → seats.AreRanks kept ranks → kept ≡ xs → slice_get ranks p ≡ None → place_at xs i ≡ Some p → ⊥
never_unranked xs kept ranks p i h e none there =
    let no : ◌≡◌ {A = Option ℕ} None (Some p) = sym (ap (λ (o : Option ℕ). option_and_then (place_at kept) o) none) ∙ h i p (ap (λ (ys : List Placed). place_at ys i) e ∙ there) in
    cc
