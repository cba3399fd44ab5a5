-- Seats that ascend: where a seat stands, and which is next before another, going round.
use Rattle.std.proofs.Common.{◌≡◌, ℕ, zero, suc, ◌+◌, ◌-◌, ◌<◌, ◌≤◌, Bool, true, false, ◌&&◌, ◌||◌, List, [], ◌∷◌, length, get_or, refl, sym, ap, subst, ◌∙◌, inl, inr, arith}
use Rattle.std.specs.Prelude.{AllPairs}
use Rattle.std.specs.List.{list_any}
use Rattle.std.specs.Ordering.{is_lt}
use Rattle.std.specs.FinSet as set
use Rattle.std.proofs.lemmas.Bool.{cases_lt}
use Rattle.std.proofs.lemmas.List.Folds.{list_any_at}
use Rattle.std.proofs.lemmas.List.Sorted.{ranks_by, sorted_far}
use Rattle.rapid_rings.specs.Seats.{Seat, seat_cmp, same_seat, is_below, sits_between, Ascend, rank_before}
use Rattle.rapid_rings.proofs.Rounds.{seats_total, same_seat_is, own_seat, turned, none_below}
use Rattle.rapid_model.proofs.Logic.{less_differs, not_back}

-- a seat of the list stands at some place
pub somewhere : (xs : List Seat) (q : Seat) → list_any (same_seat q) xs ≡ true → (k : ℕ) × (k < length xs) × ((d : Seat) → get_or xs k d ≡ q)
somewhere [] q h = cc
somewhere (x ∷ xs) q h =
    elim (same_seat q x) as (λ b. same_seat q x ≡ b → (b || list_any (same_seat q) xs) ≡ true → (k : ℕ) × (k < length (x ∷ xs)) × ((d : Seat) → get_or (x ∷ xs) k d ≡ q)) [
      | true ↦ λ e _. (0, omega arith, λ d. sym (same_seat_is q x e))
      | false ↦ λ e h. let rest = somewhere xs q h in (suc rest.0, omega (arith, rest.1), rest.2)
    ] refl h

pub stands : (xs : List Seat) (q : Seat) → set.contains (set.from_list {R = seat_cmp} xs) q ≡ true → (k : ℕ) × (k < length xs) × ((d : Seat) → get_or xs k d ≡ q)
stands xs q there = somewhere xs q (sym (set.contains-from_list seats_total xs q) ∙ there)

pub held : (xs : List Seat) (x : Seat) (i : ℕ) (d : Seat) → i < length xs → x ≡ get_or xs i d → set.contains (set.from_list {R = seat_cmp} xs) x ≡ true
held xs x i d l at =
    set.contains-from_list seats_total xs x
    ∙ list_any_at (same_seat x) xs i d l (subst (λ y. same_seat x y ≡ true) at (own_seat x))

-- each is below all that follow
abbrev pub Rise : List Seat → Type 0
Rise = AllPairs (λ x y. is_below x y ≡ true)

pub rise_ascends : (xs : List Seat) → Rise xs → Ascend xs
rise_ascends xs up k d z l =
    ap is_lt (turned (get_or xs k d) (get_or xs (k + 1) d)) ∙ not_back (seat_cmp (get_or xs k d) (get_or xs (k + 1) d)) (up k (k + 1) d (omega arith) l)

-- a later seat is not below
pub never_falls : (xs : List Seat) → Ascend xs → (i j : ℕ) (d : Seat) → i ≤ j → j < length xs → is_below (get_or xs j d) (get_or xs i d) ≡ false
never_falls xs up = sorted_far is_below (ranks_by seats_total (λ (y : Seat). y)) xs up

-- two seats at two places
pub rise_apart : (xs : List Seat) → Rise xs → (i j : ℕ) (d : Seat) → i < j → j < length xs → same_seat (get_or xs i d) (get_or xs j d) ≡ false
rise_apart xs up i j d l m = less_differs (seat_cmp (get_or xs i d) (get_or xs j d)) (up i j d l m)

first_of_three : (a b c : Bool) → c ≡ false → a ≡ false → ((a && b) || (b && c) || (c && a)) ≡ false
first_of_three false true false p h = refl
first_of_three false false false p h = refl
first_of_three true b c p h = cc
first_of_three false b true p h = cc

last_of_three : (a b c : Bool) → c ≡ false → b ≡ false → ((a && b) || (b && c) || (c && a)) ≡ false
last_of_three true false false p h = refl
last_of_three false false false p h = refl
last_of_three a true c p h = cc
last_of_three true false true p h = cc
last_of_three false false true p h = cc

-- s comes after the first c seats, and before the others: between the seat with the rank before c, going round, and s
-- is none
pub none_between : (xs : List Seat) (s : Seat) (c : ℕ) (d : Seat) → Ascend xs → 0 < length xs → c ≤ length xs
    → ((k : ℕ) → k < c → is_below (get_or xs k d) s ≡ true) → ((k : ℕ) → c ≤ k → k < length xs → is_below (get_or xs k d) s ≡ false)
    → (q : Seat) → set.contains (set.from_list {R = seat_cmp} xs) q ≡ true → sits_between (get_or xs (rank_before c (length xs)) d) q s ≡ false
none_between xs s zero d up some le low high q there =
    let at = stands xs q there in
    let i = length xs - 1 in
    none_below (is_below (get_or xs i d) q) (is_below q s) (is_below s (get_or xs i d))
    (subst (λ y. is_below (get_or xs i d) y ≡ false) (at.2 d) (never_falls xs up at.0 i d (omega (arith, at.1)) (omega (arith, some))))
    (subst (λ y. is_below y s ≡ false) (at.2 d) (high at.0 (omega arith) at.1))
none_between xs s (suc c) d up some le low high q there =
    let at = stands xs q there in
    elim (cases_lt at.0 (suc c)) [
      | inl before ↦ first_of_three (is_below (get_or xs c d) q) (is_below q s) (is_below s (get_or xs c d)) not_after
          (subst (λ y. is_below (get_or xs c d) y ≡ false) (at.2 d) (never_falls xs up at.0 c d (omega (arith, before)) (omega (arith, le))))
      | inr after ↦ last_of_three (is_below (get_or xs c d) q) (is_below q s) (is_below s (get_or xs c d)) not_after
          (subst (λ y. is_below y s ≡ false) (at.2 d) (high at.0 after at.1))
    ]
  where
    not_after : is_below s (get_or xs c d) ≡ false
    not_after = ap is_lt (turned (get_or xs c d) s) ∙ not_back (seat_cmp (get_or xs c d) s) (low c (omega arith))
