-- The rings of masks, and the reports that they stand for.
use Rattle.std.proofs.Common.{◌≡◌, ℕ, zero, suc, ◌+◌, max, ◌^◌, ◌*◌, ◌%◌, ◌≤◌, ◌<◌, Bool, true, false, cond, ◌&&◌, ◌||◌, ◌==◌, List, [], ◌∷◌, ◌++◌, map, refl, sym, ap, subst, ◌∙◌, ◌⊎◌, inl, inr, Some, is_some, arith, eq-eqb, ne_eqb, bit_or, w16, nat_lt}
use Rattle.std.specs.List.{list_any, range_with_len}
use Rattle.std.specs.Int.{bit_at}
use Rattle.std.specs.Ordering.{eq_by_cmp}
use Rattle.std.specs.Map.{keys_of, lookup}
use Rattle.std.specs.BTreeMap.{is_at}
use Rattle.std.proofs.lemmas.Bool.{cases_eq, and_from, or_cases, or_left, or_right}
use Rattle.std.proofs.lemmas.Nat.Bits.{bit_at_or, bit_at-lt, bit_at_set_same, bit_at_set_other, bit_at-zero, same_from_bits}
use Rattle.rapid_model.specs.Process.{Process, process_cmp, is_in, same_bytes}
use Rattle.rapid_model.specs.Reports.{Report, report_cmp}
use Rattle.rapid_model.proofs.Orders.{same_bytes_decides}
use Rattle.rapid_alerts.specs.RingMasks.{has_ring, with_rings}
use Rattle.rapid_model.proofs.Among.{own_report}

pub no_both : (b : Bool) → b ≡ true → b ≡ false → ⊥
no_both b h k = cc

-- ---- bits

pub no_ring : (k : ℕ) → has_ring 0 k ≡ false
no_ring k = elim (nat_lt k 16) as (λ b. (b && bit_at 0 k == 1) ≡ false) [ true ↦ ap (λ n. n == 1) (bit_at-zero k) | false ↦ refl ]

pub below : (n : ℕ) → nat_lt n 16 ≡ true → n < 16
below n e = grind arith

pub one_bit : (n : ℕ) → n < 2 → (n ≡ 0) ⊎ (n ≡ 1)
one_bit n h = grind (arith, h)

max_is : (a b : ℕ) → a < 2 → b < 2 → (max a b == 1) ≡ (a == 1 || b == 1)
max_is a b l m =
    elim (one_bit a l) [
      | inl e ↦ elim (one_bit b m) [
        | inl f ↦ rw e (rw f refl)
        | inr f ↦ rw e (rw f refl)
      ]
      | inr e ↦ elim (one_bit b m) [
        | inl f ↦ rw e (rw f refl)
        | inr f ↦ rw e (rw f refl)
      ]
    ]

and_or : (l a b : Bool) → (l && (a || b)) ≡ ((l && a) || (l && b))
and_or true a b = refl
and_or false a b = refl

-- the rings of two masks
pub ring_or : (mask rings k : ℕ) → has_ring (bit_or mask rings) k ≡ (has_ring mask k || has_ring rings k)
ring_or mask rings k =
    ap (λ n. nat_lt k 16 && n == 1) (bit_at_or mask rings k)
    ∙ ap (λ b. nat_lt k 16 && b) (max_is (bit_at mask k) (bit_at rings k) (bit_at-lt mask k) (bit_at-lt rings k))
    ∙ and_or (nat_lt k 16) (bit_at mask k == 1) (bit_at rings k == 1)

-- the ring of a mask of one bit
pub ring_one : (ring k : ℕ) → ring < 16 → has_ring (1 * 2 ^ ring % 65536) k ≡ (k == ring)
ring_one ring k h =
    ap (λ n. has_ring n k) (sym (or_zero (1 * 2 ^ ring % 65536)))
    ∙ elim (cases_eq k ring) [
      | inl same ↦ subst (λ i. has_ring (bit_or 0 (1 * 2 ^ ring % 65536)) i ≡ (i == ring)) (sym same)
          (and_from _ _ (less ring h) (ap (λ n. n == 1) (bit_at_set_same w16 0 ring h)) ∙ sym (eq-eqb ring ring refl))
      | inr other ↦ ap (λ n. nat_lt k 16 && n == 1) (bit_at_set_other w16 0 ring h k other ∙ bit_at-zero k) ∙ and_false (nat_lt k 16) ∙ sym (ne_eqb k ring other)
    ]
  where
    less : (n : ℕ) → n < 16 → nat_lt n 16 ≡ true
    less n e = grind arith

    and_false : (b : Bool) → (b && false) ≡ false
    and_false true = refl
    and_false false = refl

    or_zero : (n : ℕ) → bit_or 0 n ≡ n
    or_zero n = same_from_bits (bit_or 0 n) n (λ i. bit_at_or 0 n i ∙ ap (λ m. max m (bit_at n i)) (bit_at-zero i) ∙ more (bit_at n i))
      where
        more : (n : ℕ) → max 0 n ≡ n
        more n = grind arith

-- ---- processes with each ring

any_append : (x : Report) (xs ys : List Report) → (list_any (eq_by_cmp report_cmp x) xs ≡ true) ⊎ (list_any (eq_by_cmp report_cmp x) ys ≡ true) → list_any (eq_by_cmp report_cmp x) (xs ++ ys) ≡ true
any_append x [] ys (inl h) = cc
any_append x [] ys (inr h) = h
any_append x (y ∷ xs) ys (inr h) = or_right _ _ (any_append x xs ys (inr h))
any_append x (y ∷ xs) ys (inl h) = elim (or_cases (eq_by_cmp report_cmp x y) _ h) [ inl e ↦ or_left _ _ e | inr later ↦ or_right _ _ (any_append x xs ys (inl later)) ]

on_rings : (s : Process) (k n a : ℕ) → a ≤ k → k < a + n → list_any (eq_by_cmp report_cmp (s, k)) (map (λ j. (s, j)) (range_with_len a n)) ≡ true
on_rings s k zero a low high = absurd (omega arith)
on_rings s k (suc n) a low high =
    elim (cases_eq a k) [
      | inl same ↦ or_left _ _ (subst (λ j. eq_by_cmp report_cmp (s, k) (s, j) ≡ true) (sym same) (own_report (s, k)))
      | inr other ↦ or_right _ _ (on_rings s k n (a + 1) (omega (arith, other)) (omega arith))
    ]

-- a report on one of these processes for one of sixteen rings is there
pub on_these : (ss : List Process) (s : Process) (k : ℕ) → is_in ss s ≡ true → k < 16 → list_any (eq_by_cmp report_cmp (s, k)) (with_rings ss) ≡ true
on_these [] s k h l = h
on_these (q ∷ ss) s k h l =
    any_append (s, k) (map (λ j. (q, j)) (range_with_len 0 16)) (with_rings ss)
    (elim (or_cases (same_bytes s q) (is_in ss s) h) [
      | inl e ↦ inl (subst (λ p. list_any (eq_by_cmp report_cmp (s, k)) (map (λ j. (p, j)) (range_with_len 0 16)) ≡ true) ((same_bytes_decides s q).0 e) (on_rings s k 16 0 (omega arith) (omega (arith, l))))
      | inr later ↦ inr (on_these ss s k later l)
    ])

-- a key is there exactly if it is found
pub found_in : {A : Type 0} (es : List (Process × A)) (s : Process) → is_in (keys_of es) s ≡ is_some (lookup (is_at (process_cmp s)) es)
found_in [] s = refl
found_in (e ∷ es) s =
    elim (same_bytes s e.0) as (λ b. (b || is_in (keys_of es) s) ≡ is_some (cond b (Some e.1) (lookup (is_at (process_cmp s)) es))) [ true ↦ refl | false ↦ found_in es s ]
