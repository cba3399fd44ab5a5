-- Going round a ring: the member next before a process is the one with none between.
use Rattle.std.proofs.Common.{◌≡◌, ℕ, Bool, true, false, cond, not, ◌&&◌, ◌||◌, List, [], ◌∷◌, map, refl, sym, ap, subst, ◌∙◌, Option, Some, None}
use Rattle.std.specs.Option.{option_map}
use Rattle.std.specs.List.{list_any, list_all, find}
use Rattle.std.specs.declared.cmp.Ordering.{Ordering}
use Rattle.std.specs.declared.cmp.Ordering.TheVariants.{Less, Equal, Greater}
use Rattle.std.specs.Ordering.{ordering_reverse, is_lt, is_eq}
use Rattle.std.specs.Cmp.{IsTotalOrder, then_total, on_total}
use Rattle.std.specs.FinSet as set
use Rattle.std.specs.FinSet.{IsAntisymmetric}
use Rattle.rapid_model.specs.Process.{Process, bytes_cmp, process_cmp, same_bytes, is_in}
use Rattle.rapid_model.specs.Ring.{is_between, is_next_before, ring_observer}
use Rattle.rapid_model.proofs.Orders.{processes_total, processes_exact, second_equal, first_equal, tie_decides, same_bytes_decides}
use Rattle.rapid_rings.specs.Seats.{Seat, seat_cmp, same_seat, seat, seats_of, sits_between, IsNextBefore}
use Rattle.rapid_rings.proofs.Sets.{own}
use Rattle.std.proofs.lemmas.Bool.{not-true, not_from_false, and_parts}

-- ---- the order of seats

pub seats_total : IsTotalOrder seat_cmp
seats_total = then_total (on_total (λ (x : Seat). x.0) processes_total) (on_total (λ (x : Seat). x.1) processes_total)

pub seats_exact : IsAntisymmetric seat_cmp
seats_exact a b e =
    let p : a.0 ≡ b.0 = processes_exact _ _ (first_equal (bytes_cmp a.0 b.0) (process_cmp a.1 b.1) e) in
    let q : a.1 ≡ b.1 = processes_exact _ _ (second_equal (bytes_cmp a.0 b.0) (process_cmp a.1 b.1) e) in
    λ i. (p i, q i)

pub same_seat_is : (x y : Seat) → same_seat x y ≡ true → x ≡ y
same_seat_is x y h = (tie_decides seats_total seats_exact x y).0 h

pub own_seat : (x : Seat) → same_seat x x ≡ true
own_seat x = (tie_decides seats_total seats_exact x x).1 refl

pub turned : (x y : Seat) → seat_cmp y x ≡ ordering_reverse (seat_cmp x y)
turned x y = seats_total.antisymm y x

-- ---- of two seats one is between the other and a third

one_between : (a b c : Ordering) → is_eq a ≡ false → is_eq b ≡ false → is_eq c ≡ false
    → ((is_lt a && is_lt c) || (is_lt c && is_lt (ordering_reverse b)) || (is_lt (ordering_reverse b) && is_lt a)) ≡ false
    → ((is_lt (ordering_reverse a) && is_lt b) || (is_lt b && is_lt (ordering_reverse c)) || (is_lt (ordering_reverse c) && is_lt (ordering_reverse a))) ≡ false → ⊥
one_between Equal b c p q r h k = cc
one_between Less Equal c p q r h k = cc
one_between Greater Equal c p q r h k = cc
one_between Less Less Equal p q r h k = cc
one_between Less Greater Equal p q r h k = cc
one_between Greater Less Equal p q r h k = cc
one_between Greater Greater Equal p q r h k = cc
one_between Less Less Less p q r h k = cc
one_between Less Less Greater p q r h k = cc
one_between Less Greater Less p q r h k = cc
one_between Less Greater Greater p q r h k = cc
one_between Greater Less Less p q r h k = cc
one_between Greater Less Greater p q r h k = cc
one_between Greater Greater Less p q r h k = cc
one_between Greater Greater Greater p q r h k = cc

pub only_one : (x y s : Seat) → same_seat x s ≡ false → same_seat y s ≡ false → sits_between x y s ≡ false → sits_between y x s ≡ false → x ≡ y
only_one x y s p q h k =
    elim (same_seat x y) as (λ b. same_seat x y ≡ b → x ≡ y) [
      | true ↦ λ e. same_seat_is x y e
      | false ↦ λ e. absurd (one_between (seat_cmp x y) (seat_cmp x s) (seat_cmp y s) e p q (first e) (second e))
    ] refl
  where
    first : same_seat x y ≡ false → ((is_lt (seat_cmp x y) && is_lt (seat_cmp y s)) || (is_lt (seat_cmp y s) && is_lt (ordering_reverse (seat_cmp x s))) || (is_lt (ordering_reverse (seat_cmp x s)) && is_lt (seat_cmp x y))) ≡ false
    first e = rw (← turned x s) h

    second : same_seat x y ≡ false → ((is_lt (ordering_reverse (seat_cmp x y)) && is_lt (seat_cmp x s)) || (is_lt (seat_cmp x s) && is_lt (ordering_reverse (seat_cmp y s))) || (is_lt (ordering_reverse (seat_cmp y s)) && is_lt (ordering_reverse (seat_cmp x y)))) ≡ false
    second e = rw (← turned y s, ← turned x y) k

pub none_below : (a b c : Bool) → a ≡ false → b ≡ false → ((a && b) || (b && c) || (c && a)) ≡ false
none_below false false true p q = refl
none_below false false false p q = refl
none_below true b c p q = cc
none_below false true c p q = cc

-- ---- the seats of the members

pub contains-seats : (k : ℕ) (ms : List Process) (x : Seat) → set.contains (seats_of k ms) x ≡ list_any (same_seat x) (map (seat k) ms)
unfolding seats_of
contains-seats k ms x = set.contains-from_list seats_total (map (seat k) ms) x

pub seated : (k : ℕ) (ms : List Process) (x : Seat) → list_any (same_seat x) (map (seat k) ms) ≡ true → (x ≡ seat k x.1) × (is_in ms x.1 ≡ true)
seated k [] x h = cc
seated k (m ∷ ms) x h =
    elim (same_seat x (seat k m)) as (λ b. same_seat x (seat k m) ≡ b → (b || list_any (same_seat x) (map (seat k) ms)) ≡ true → (x ≡ seat k x.1) × ((same_bytes x.1 m || is_in ms x.1) ≡ true)) [
      | true ↦ λ e _.
          let same = same_seat_is x (seat k m) e in
          let process : x.1 ≡ m = ap (λ (y : Seat). y.1) same in
          (same ∙ ap (seat k) (sym process), ap (λ b. b || is_in ms x.1) ((same_bytes_decides x.1 m).1 process))
      | false ↦ λ e h. let rest = seated k ms x h in (rest.0, or_late (same_bytes x.1 m) (is_in ms x.1) rest.1)
    ] refl h
  where
    or_late : (a b : Bool) → b ≡ true → (a || b) ≡ true
    or_late true b h = refl
    or_late false b h = h

pub seats_have : (k : ℕ) (ms : List Process) (p : Process) → is_in ms p ≡ true → list_any (same_seat (seat k p)) (map (seat k) ms) ≡ true
seats_have k [] p h = cc
seats_have k (m ∷ ms) p h =
    elim (same_bytes p m) as (λ b. same_bytes p m ≡ b → (b || is_in ms p) ≡ true → (same_seat (seat k p) (seat k m) || list_any (same_seat (seat k p)) (map (seat k) ms)) ≡ true) [
      | true ↦ λ e _. ap (λ b. b || list_any (same_seat (seat k p)) (map (seat k) ms)) (subst (λ q. same_seat (seat k p) (seat k q) ≡ true) ((same_bytes_decides p m).0 e) (own_seat (seat k p)))
      | false ↦ λ e h. or_late (same_seat (seat k p) (seat k m)) _ (seats_have k ms p h)
    ] refl h
  where
    or_late : (a b : Bool) → b ≡ true → (a || b) ≡ true
    or_late true b h = refl
    or_late false b h = h

-- ---- the observer

all_pass : (p : Process → Bool) (ms : List Process) → ((m : Process) → is_in ms m ≡ true → p m ≡ true) → list_all p ms ≡ true
all_pass p [] h = refl
all_pass p (m ∷ ms) h =
    ap (λ b. b && list_all p ms) (h m (ap (λ b. b || is_in ms m) (own m)))
    ∙ all_pass p ms (λ q at. h q (or_late (same_bytes q m) (is_in ms q) at))
  where
    or_late : (a b : Bool) → b ≡ true → (a || b) ≡ true
    or_late true b h = refl
    or_late false b h = h

pub each_passes : (p : Process → Bool) (ms : List Process) (m : Process) → list_all p ms ≡ true → is_in ms m ≡ true → p m ≡ true
each_passes p [] m h at = cc
each_passes p (q ∷ ms) m h at =
    let parts = and_parts (p q) (list_all p ms) h in
    elim (same_bytes m q) as (λ b. same_bytes m q ≡ b → (b || is_in ms m) ≡ true → p m ≡ true) [
      | true ↦ λ e _. subst (λ x. p x ≡ true) (sym ((same_bytes_decides m q).0 e)) parts.0
      | false ↦ λ e at. each_passes p ms m parts.1 at
    ] refl at

pub found : (p : Process → Bool) (ms : List Process) (o : Process) → is_in ms o ≡ true → p o ≡ true → ((m : Process) → is_in ms m ≡ true → p m ≡ true → m ≡ o) → find p ms ≡ Some o
found p [] o at passes only = cc
found p (m ∷ ms) o at passes only =
    elim (p m) as (λ b. p m ≡ b → cond b (Some m) (find p ms) ≡ Some o) [
      | true ↦ λ e. ap Some (only m (ap (λ b. b || is_in ms m) (own m)) e)
      | false ↦ λ e. found p ms o (later e) passes (λ q there passes. only q (or_late (same_bytes q m) (is_in ms q) there) passes)
    ] refl
  where
    or_late : (a b : Bool) → b ≡ true → (a || b) ≡ true
    or_late true b h = refl
    or_late false b h = h

    later : p m ≡ false → is_in ms o ≡ true
    later e =
        elim (same_bytes o m) as (λ b. same_bytes o m ≡ b → (b || is_in ms o) ≡ true → is_in ms o ≡ true) [
          | true ↦ λ s _. let no : true ≡ false = sym (subst (λ x. p x ≡ true) ((same_bytes_decides o m).0 s) passes) ∙ e in cc
          | false ↦ λ s at. at
        ] refl at

pub not_found : (p : Process → Bool) (ms : List Process) → ((m : Process) → is_in ms m ≡ true → p m ≡ false) → find p ms ≡ None
not_found p [] h = refl
not_found p (m ∷ ms) h =
    ap (λ b. cond b (Some m) (find p ms)) (h m (ap (λ b. b || is_in ms m) (own m)))
    ∙ not_found p ms (λ q at. h q (or_late (same_bytes q m) (is_in ms q) at))
  where
    or_late : (a b : Bool) → b ≡ true → (a || b) ≡ true
    or_late true b h = refl
    or_late false b h = h

-- a process apart on the ring
pub apart : (k : ℕ) (p s : Process) → same_bytes p s ≡ false → same_seat (seat k p) (seat k s) ≡ false
apart k p s h =
    elim (same_seat (seat k p) (seat k s)) as (λ b. same_seat (seat k p) (seat k s) ≡ b → b ≡ false) [
      | true ↦ λ e. let no : true ≡ false = sym ((same_bytes_decides p s).1 (ap (λ (y : Seat). y.1) (same_seat_is (seat k p) (seat k s) e))) ∙ h in cc
      | false ↦ λ e. refl
    ] refl

-- the member with none between is the one in the seat next before
pub observer_in_seat : (k : ℕ) (ms : List Process) (s : Process) (r : Option Seat) → IsNextBefore (seats_of k ms) (seat k s) r → option_map (λ x. x.1) r ≡ ring_observer ms k s
observer_in_seat k ms s None h =
    sym (not_found (is_next_before ms k s) ms (λ m at.
    let same = same_seat_is (seat k m) (seat k s) (h (seat k m) (contains-seats k ms (seat k m) ∙ seats_have k ms m at)) in
    ap (λ b. not b && list_all (λ q. not (is_between k m q s)) ms) ((same_bytes_decides m s).1 (ap (λ (y : Seat). y.1) same))))
observer_in_seat k ms s (Some x) h =
    let is = seated k ms x (sym (contains-seats k ms x) ∙ h.0) in
    sym (found (is_next_before ms k s) ms x.1 is.1 (passes is.0) (λ m at next. only is.0 is.1 m at next))
  where
    other : x ≡ seat k x.1 → same_bytes x.1 s ≡ false
    other e =
        elim (same_bytes x.1 s) as (λ b. same_bytes x.1 s ≡ b → b ≡ false) [
          | true ↦ λ t. let no : true ≡ false = sym (own_seat (seat k s)) ∙ subst (λ y. same_seat y (seat k s) ≡ false) (e ∙ ap (seat k) ((same_bytes_decides x.1 s).0 t)) h.1 in cc
          | false ↦ λ t. refl
        ] refl

    none_between : x ≡ seat k x.1 → (m : Process) → is_in ms m ≡ true → sits_between (seat k x.1) (seat k m) (seat k s) ≡ false
    none_between e m at = subst (λ y. sits_between y (seat k m) (seat k s) ≡ false) e (h.2 (seat k m) (contains-seats k ms (seat k m) ∙ seats_have k ms m at))

    passes : x ≡ seat k x.1 → is_next_before ms k s x.1 ≡ true
    passes e =
        ap (λ b. not b && list_all (λ m. not (is_between k x.1 m s)) ms) (other e)
        ∙ all_pass (λ m. not (is_between k x.1 m s)) ms (λ m at. not_from_false (is_between k x.1 m s) (none_between e m at))

    only : x ≡ seat k x.1 → is_in ms x.1 ≡ true → (m : Process) → is_in ms m ≡ true → is_next_before ms k s m ≡ true → m ≡ x.1
    only e there m at next =
        let parts = and_parts (not (same_bytes m s)) (list_all (λ q. not (is_between k m q s)) ms) next in
        let free = each_passes (λ q. not (is_between k m q s)) ms x.1 parts.1 there in
        ap (λ (y : Seat). y.1) (only_one (seat k m) (seat k x.1) (seat k s) (apart k m s (not-true (same_bytes m s) parts.0)) (apart k x.1 s (other e)) (not-true (is_between k m x.1 s) free) (none_between e m at))
