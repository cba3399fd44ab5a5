-- Who stands outside a configuration that has a member has an observer on each ring.
use Rattle.std.proofs.Common.{◌≡◌, ℕ, zero, suc, ◌≤◌, ◌⊎◌, inl, inr, Bool, true, false, cond, not, ◌&&◌, ◌||◌, List, [], ◌∷◌, length, Option, Some, None, refl, sym, ap, subst, ◌∙◌, arith, nat_lt}
use Rattle.std.specs.Prelude.{filter_map}
use Rattle.std.specs.List.{list_all, find, cons_option, range_with_len}
use Rattle.std.specs.declared.cmp.Ordering.{Ordering}
use Rattle.std.specs.Ordering.{is_lt, ordering_reverse}
use Rattle.std.specs.Cmp.{IsTotalOrder, then_total, on_total, tied_itself, eq_by_cmp_equiv}
use Rattle.rapid_model.specs.Process.{Process, same_bytes, is_in}
use Rattle.rapid_model.specs.Configuration.{Configuration, IsConfiguration, is_member}
use Rattle.rapid_model.specs.Ring.{ring_key, ring_cmp, is_before, is_next_before, ring_observer, observers_of}
use Rattle.rapid_model.specs.Host.{observers_for}
use Rattle.rapid_model.proofs.Orders.{processes_total, same_bytes_decides}
use Rattle.rapid_model.proofs.Logic.{less_is}
use Rattle.std.proofs.lemmas.List.FromFn.{length-range_with_len}

-- the value is in the list
abbrev In : {K : Type 0} → K → List K → Type 0
In x [] = ⊥
In x (y ∷ ys) = (x ≡ y) ⊎ In x ys

all_from : {K : Type 0} (test : K → Bool) (xs : List K) → ((y : K) → In y xs → test y ≡ true) → list_all test xs ≡ true
all_from test [] h = refl
all_from test (x ∷ xs) h = rw (h x (inl refl)) (all_from test xs (λ y at. h y (inr at)))

find_from : {K : Type 0} (test : K → Bool) (xs : List K) (x : K) → In x xs → test x ≡ true → (y : K) × (find test xs ≡ Some y)
find_from test [] x at h = absurd at
find_from {K} test (y ∷ ys) x at h =
    elim (test y) as (λ b. test y ≡ b → (z : K) × (cond b (Some y) (find test ys) ≡ Some z)) [
      | true ↦ λ e. (y, refl)
      | false ↦ λ e. elim at [ inl same ↦ absurd (apart same e) | inr later ↦ find_from test ys x later h ]
    ] refl
  where
    apart : x ≡ y → test y ≡ false → ⊥
    apart same e = let k : test y ≡ true = subst (λ z. test z ≡ true) same h in cc

module _ {K : Type 0} (R : K → K → Ordering) (o : IsTotalOrder R) where
  abbrev below : K → K → Bool
  below x y = is_lt (R x y)

  irrefl : (x : K) → below x x ≡ false
  irrefl x = ap is_lt (tied_itself o x)

  asym : (x y : K) → below x y ≡ true → below y x ≡ false
  asym x y h = ap is_lt (o.antisymm y x ∙ ap ordering_reverse (less_is (R x y) h))

  trans : (x y z : K) → below x y ≡ true → below y z ≡ true → below x z ≡ true
  trans x y z h k = ap is_lt (o.trans x y z (less_is (R x y) h) (less_is (R y z) k))

  -- a last one of those that pass the test
  abbrev IsLastOf : (K → Bool) → List K → K → Type 0
  IsLastOf test xs x = In x xs × (test x ≡ true) × ((y : K) → In y xs → test y ≡ true → below x y ≡ false)

  last_of : (test : K → Bool) (xs : List K) → ((y : K) → In y xs → test y ≡ false) ⊎ ((x : K) × IsLastOf test xs x)
  last_of test [] = inl (λ y at. absurd at)
  last_of test (x ∷ xs) =
      elim (test x) as (λ b. test x ≡ b → ((y : K) → In y (x ∷ xs) → test y ≡ false) ⊎ ((z : K) × IsLastOf test (x ∷ xs) z)) [
        | true ↦ λ e. inr (elim (last_of test xs) [ inl none ↦ alone e none | inr best ↦ better e best.0 best.1 ])
        | false ↦ λ e. elim (last_of test xs) [ inl none ↦ inl (λ y at. here_or e none y at) | inr best ↦ inr (best.0, (inr best.1.0, best.1.1, λ y at k. others e best.0 best.1 y at k)) ]
      ] refl
    where
      is_no : (y : K) → test y ≡ true → test y ≡ false → ⊥
      is_no y h k = cc

      here_or : test x ≡ false → ((y : K) → In y xs → test y ≡ false) → (y : K) → In y (x ∷ xs) → test y ≡ false
      here_or e none y (inl same) = ap test same ∙ e
      here_or e none y (inr at) = none y at

      others : test x ≡ false → (z : K) → IsLastOf test xs z → (y : K) → In y (x ∷ xs) → test y ≡ true → below z y ≡ false
      others e z best y (inl same) k = absurd (is_no x (sym (ap test same) ∙ k) e)
      others e z best y (inr at) k = best.2 y at k

      alone : test x ≡ true → ((y : K) → In y xs → test y ≡ false) → (z : K) × IsLastOf test (x ∷ xs) z
      alone e none = (x, (inl refl, e, λ y at k. go y at k))
        where
          go : (y : K) → In y (x ∷ xs) → test y ≡ true → below x y ≡ false
          go y (inl same) k = ap (below x) same ∙ irrefl x
          go y (inr at) k = absurd (is_no y k (none y at))

      better : test x ≡ true → (z : K) → IsLastOf test xs z → (w : K) × IsLastOf test (x ∷ xs) w
      better e z best =
          elim (below z x) as (λ b. below z x ≡ b → (w : K) × IsLastOf test (x ∷ xs) w) [
            | true ↦ λ l. (x, (inl refl, e, λ y at k. first l y at k))
            | false ↦ λ l. (z, (inr best.0, best.1, λ y at k. second l y at k))
          ] refl
        where
          first : below z x ≡ true → (y : K) → In y (x ∷ xs) → test y ≡ true → below x y ≡ false
          first l y (inl same) k = ap (below x) same ∙ irrefl x
          first l y (inr at) k =
              elim (below x y) as (λ b. below x y ≡ b → b ≡ false) [
                | true ↦ λ m. let past = trans z x y l m in let not_past = best.2 y at k in cc
                | false ↦ λ m. refl
              ] refl

          second : below z x ≡ false → (y : K) → In y (x ∷ xs) → test y ≡ true → below z y ≡ false
          second l y (inl same) k = ap (below z) same ∙ l
          second l y (inr at) k = best.2 y at k

none_between : (a b c : Bool) → c ≡ false → (b ≡ true → a ≡ false) → not ((a && b) || (b && c) || (c && a)) ≡ true
none_between true true c e h = absurd (let n = h refl in cc)
none_between true false false e h = refl
none_between false true false e h = refl
none_between false false false e h = refl
none_between a b true e h = cc

none_between_all : (a b c : Bool) → a ≡ false → b ≡ false → not ((a && b) || (b && c) || (c && a)) ≡ true
none_between_all false false true e h = refl
none_between_all false false false e h = refl
none_between_all true b c e h = cc
none_between_all a true c e h = cc

no_true : (b : Bool) → b ≡ true → b ≡ false → ⊥
no_true b h k = cc

module _ (k : ℕ) where
  total : IsTotalOrder (ring_cmp k)
  total = then_total (on_total (ring_key k) processes_total) processes_total

  -- some member is next before a process that is none of them
  next : (ms : List Process) (s first : Process) → In first ms → ((y : Process) → In y ms → same_bytes y s ≡ false) → (x : Process) × In x ms × (is_next_before ms k s x ≡ true)
  next ms s first in_it apart =
      elim (last_of (ring_cmp k) total (λ m. is_before k m s) ms) [
        | inr best ↦
            let x = best.0 in
            let back = asym (ring_cmp k) total x s best.1.1 in
            (x, best.1.0, both_true (same_bytes x s) (apart x best.1.0) (all_from _ ms (λ m at. none_between (is_before k x m) (is_before k m s) (is_before k s x) back (λ e. best.1.2 m at e))))
        | inl none ↦ elim (last_of (ring_cmp k) total (λ m. true) ms) [
          | inl empty ↦ absurd (no_true true refl (empty first in_it))
          | inr best ↦
              let x = best.0 in
              (x, best.1.0, both_true (same_bytes x s) (apart x best.1.0) (all_from _ ms (λ m at. none_between_all (is_before k x m) (is_before k m s) (is_before k s x) (best.1.2 m at refl) (none m at))))
        ]
      ]
    where
      both_true : (b : Bool) {c : Bool} → b ≡ false → c ≡ true → (not b && c) ≡ true
      both_true true e h = cc
      both_true false e h = h

  pub observed_outside : (ms : List Process) (s first : Process) → In first ms → ((y : Process) → In y ms → same_bytes y s ≡ false) → (x : Process) × (ring_observer ms k s ≡ Some x)
  observed_outside ms s first in_it apart =
      let n = next ms s first in_it apart in
      find_from (is_next_before ms k s) ms n.0 n.1 n.2

in_from : (ms : List Process) (p : Process) → is_in ms p ≡ true → In p ms
in_from [] p h = cc
in_from (m ∷ ms) p h =
    elim (same_bytes p m) as (λ b. same_bytes p m ≡ b → (b || is_in ms p) ≡ true → (p ≡ m) ⊎ In p ms) [
      | true ↦ λ e k. inl ((same_bytes_decides p m).0 e)
      | false ↦ λ e k. inr (in_from ms p k)
    ] refl h

not_in : (ms : List Process) (s : Process) → is_in ms s ≡ false → (y : Process) → In y ms → same_bytes y s ≡ false
not_in [] s h y at = absurd at
not_in (m ∷ ms) s h y at =
    elim at [
      | inl same ↦ (eq_by_cmp_equiv processes_total).symm y s ∙ ap (same_bytes s) same ∙ (or_false (same_bytes s m) (is_in ms s) h).0
      | inr later ↦ not_in ms s (or_false (same_bytes s m) (is_in ms s) h).1 y later
    ]
  where
    or_false : (a b : Bool) → (a || b) ≡ false → (a ≡ false) × (b ≡ false)
    or_false true b h = cc
    or_false false b h = (refl, h)

length-filter_map : {A B : Type 0} (h : A → Option B) (xs : List A) → length (filter_map h xs) ≤ length xs
length-filter_map h [] = omega arith
length-filter_map h (x ∷ xs) =
    let rest = length-filter_map h xs in
    elim (h x) as (λ o. length (cons_option o (filter_map h xs)) ≤ suc (length xs)) [ None ↦ omega (arith, rest) | Some y ↦ omega (arith, rest) ]

-- a process outside has 1 to 16 observers
pub observers_outside : (c : Configuration) → IsConfiguration c → (me j : Process) → is_member c me ≡ true → is_member c j ≡ false → (1 ≤ length (observers_for c j)) × (length (observers_for c j) ≤ 16)
unfolding observers_of
observers_outside c is me j member outside = (least c.params.k (omega (arith, is.params.some, is.params.below, is.params.rings)) refl, omega (arith, length-filter_map (λ k. (observers_of c).observer k j) (range_with_len 0 c.params.k), length-range_with_len 0 c.params.k, is.params.few))
  where
    found : (x : Process) × (ring_observer c.members 0 j ≡ Some x)
    found = observed_outside 0 c.members j me (in_from c.members me member) (not_in c.members j outside)

    least : (n : ℕ) → 1 ≤ n → n ≡ c.params.k → 1 ≤ length (filter_map (λ k. cond (nat_lt k c.params.k) (ring_observer c.members k j) None) (range_with_len 0 n))
    least zero l e = absurd (omega arith)
    least (suc n) l e =
        let here : nat_lt 0 c.params.k ≡ true = grind (arith, e) in
        rw (here, found.1) (omega arith)
