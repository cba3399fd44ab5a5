-- Sets of positions as bits of words.
use Rattle.std.proofs.Common.{◌≡◌, ℕ, zero, suc, ◌+◌, ◌*◌, ◌/◌, ◌%◌, ◌^◌, ◌≤◌, ◌<◌, Bool, true, false, cond, ◌||◌, ◌==◌, List, [], ◌∷◌, length, filter, set, get_or, refl, sym, ap, ◌∙◌, arith, eq-eqb, ne_eqb, inl, inr, bit_or, w64}
use Rattle.std.specs.List.{list_any, range_with_len}
use Rattle.std.specs.Int.{bit_at}
use Rattle.std.specs.Ordering.{nat_cmp}
use Rattle.std.specs.Cmp.{nat_cmp_total, unsigned_tied}
use Rattle.std.specs.FinSet as fin
use Rattle.std.proofs.lemmas.Bool.{cases_eq, cases_lt}
use Rattle.std.proofs.lemmas.List.{get_or-set_same, get_or-set_other}
use Rattle.std.proofs.lemmas.List.Sums.{length-filter, count_by-le-length}
use Rattle.std.proofs.lemmas.List.FromFn.{length-range_with_len}
use Rattle.std.proofs.lemmas.Nat.Bits.{bit_at_set_same, bit_at_set_other, bit_at-zero}
use Rattle.rapid_fast.specs.Bits.{has_bit, positions_of}

-- a number below those of a range is not among them
none_before : (f : ℕ → Bool) (q a n : ℕ) → q < a → list_any (λ y. y == q) (filter f (range_with_len a n)) ≡ false
none_before f q a zero h = refl
none_before f q a (suc n) h =
    elim (f a) as (λ b. list_any (λ y. y == q) (cond b (a ∷ filter f (range_with_len (a + 1) n)) (filter f (range_with_len (a + 1) n))) ≡ false) [
      | true ↦ rw (ne_eqb a q (λ e. omega arith)) (none_before f q (a + 1) n (omega arith))
      | false ↦ none_before f q (a + 1) n (omega arith)
    ]

-- nor is one above them
none_after : (f : ℕ → Bool) (q a n : ℕ) → a + n ≤ q → list_any (λ y. y == q) (filter f (range_with_len a n)) ≡ false
none_after f q a zero h = refl
none_after f q a (suc n) h =
    elim (f a) as (λ b. list_any (λ y. y == q) (cond b (a ∷ filter f (range_with_len (a + 1) n)) (filter f (range_with_len (a + 1) n))) ≡ false) [
      | true ↦ rw (ne_eqb a q (λ e. omega arith)) (none_after f q (a + 1) n (omega arith))
      | false ↦ none_after f q (a + 1) n (omega arith)
    ]

-- one of them is there if it passes the test
one_within : (f : ℕ → Bool) (q a n : ℕ) → a ≤ q → q < a + n → list_any (λ y. y == q) (filter f (range_with_len a n)) ≡ f q
one_within f q a zero h k = absurd (omega arith)
one_within f q a (suc n) h k =
    elim (cases_eq a q) [
      | inl same ↦ here same (f a) refl
      | inr other ↦ elim (f a) as (λ b. list_any (λ y. y == q) (cond b (a ∷ filter f (range_with_len (a + 1) n)) (filter f (range_with_len (a + 1) n))) ≡ f q) [
        | true ↦ rw (ne_eqb a q other) (one_within f q (a + 1) n (omega (arith, other)) (omega arith))
        | false ↦ one_within f q (a + 1) n (omega (arith, other)) (omega arith)
      ]
    ]
  where
    here : a ≡ q → (b : Bool) → f a ≡ b → list_any (λ y. y == q) (cond b (a ∷ filter f (range_with_len (a + 1) n)) (filter f (range_with_len (a + 1) n))) ≡ f q
    here same true e = rw (eq-eqb a q same) (sym (sym (ap f same) ∙ e))
    here same false e = none_before f q (a + 1) n (omega arith) ∙ sym (sym (ap f same) ∙ e)

pub contains-positions_of : (words : List ℕ) (p : ℕ) → p < 1024 → fin.contains (positions_of words) p ≡ has_bit words p
unfolding positions_of
contains-positions_of words p h = fin.contains-from_list_nat (filter (has_bit words) (range_with_len 0 1024)) p ∙ one_within (has_bit words) p 0 1024 (omega arith) h

beyond : (words : List ℕ) (p : ℕ) → 1024 ≤ p → fin.contains (positions_of words) p ≡ false
unfolding positions_of
beyond words p h = fin.contains-from_list_nat (filter (has_bit words) (range_with_len 0 1024)) p ∙ none_after (has_bit words) p 0 1024 h

len-from_list : (ks : List ℕ) → fin.len (fin.from_list {R = nat_cmp} ks) ≤ length ks
len-from_list [] = rw (fin.len-empty nat_cmp) (omega arith)
len-from_list (k ∷ ks) =
    rw (fin.len-insert nat_cmp_total (fin.from_list ks) k)
    (elim (fin.contains (fin.from_list {R = nat_cmp} ks) k) as (λ b. cond b (fin.len (fin.from_list {R = nat_cmp} ks)) (fin.len (fin.from_list {R = nat_cmp} ks) + 1) ≤ suc (length ks)) [
      | true ↦ omega (arith, len-from_list ks)
      | false ↦ omega (arith, len-from_list ks)
    ])

few_within : (f : ℕ → Bool) (n : ℕ) → fin.len (fin.from_list {R = nat_cmp} (filter f (range_with_len 0 n))) ≤ n
few_within f n =
    omega (arith, len-from_list (filter f (range_with_len 0 n)), length-filter f (range_with_len 0 n), count_by-le-length f (range_with_len 0 n), length-range_with_len 0 n)

pub few_positions : (words : List ℕ) → fin.len (positions_of words) ≤ 1024
unfolding positions_of
few_positions words = few_within (has_bit words) 1024

-- the words after the bit of a position was set
abbrev pub with_bit : List ℕ → ℕ → List ℕ
with_bit words p = set words (p / 64) (bit_or (get_or words (p / 64) 0) (1 * 2 ^ (p % 64) % 18446744073709551616))

has_bit-with_bit : (words : List ℕ) (p q : ℕ) → p / 64 < length words → has_bit (with_bit words p) q ≡ ((q == p) || has_bit words q)
has_bit-with_bit words p q within =
    elim (cases_eq (q / 64) (p / 64)) [
      | inl word ↦ elim (cases_eq (q % 64) (p % 64)) [
        | inl bit ↦ same word bit
        | inr other ↦ other_bit word other
      ]
      | inr other ↦ other_word other
    ]
  where
    same : q / 64 ≡ p / 64 → q % 64 ≡ p % 64 → has_bit (with_bit words p) q ≡ ((q == p) || has_bit words q)
    same word bit =
        let e : q ≡ p = omega arith in
        rw (eq-eqb q p e, word, bit, get_or-set_same words (p / 64) (bit_or (get_or words (p / 64) 0) (1 * 2 ^ (p % 64) % 18446744073709551616)) 0 within, bit_at_set_same w64 (get_or words (p / 64) 0) (p % 64) (omega arith)) refl

    other_bit : q / 64 ≡ p / 64 → (q % 64 ≡ p % 64 → ⊥) → has_bit (with_bit words p) q ≡ ((q == p) || has_bit words q)
    other_bit word other =
        rw (ne_eqb q p (λ e. other (ap (λ n. n % 64) e)), word, get_or-set_same words (p / 64) (bit_or (get_or words (p / 64) 0) (1 * 2 ^ (p % 64) % 18446744073709551616)) 0 within, bit_at_set_other w64 (get_or words (p / 64) 0) (p % 64) (omega arith) (q % 64) other) refl

    other_word : (q / 64 ≡ p / 64 → ⊥) → has_bit (with_bit words p) q ≡ ((q == p) || has_bit words q)
    other_word other =
        rw (ne_eqb q p (λ e. other (ap (λ n. n / 64) e)), get_or-set_other words (p / 64) (q / 64) (bit_or (get_or words (p / 64) 0) (1 * 2 ^ (p % 64) % 18446744073709551616)) 0 other) refl

pub positions_of-with_bit : (words : List ℕ) (p : ℕ) → p < 1024 → length words ≡ 16 → positions_of (with_bit words p) ≡ fin.insert (positions_of words) p
positions_of-with_bit words p h len =
    fin.same_set nat_cmp_total fin.nat_cmp-IsAntisymmetric _ _ (λ q.
    (elim (cases_lt q 1024) [
      | inl low ↦ contains-positions_of (with_bit words p) q low ∙ has_bit-with_bit words p q (omega arith) ∙ ap (λ b. (q == p) || b) (sym (contains-positions_of words q low))
      | inr high ↦ beyond (with_bit words p) q high ∙ sym (rw (ne_eqb q p (λ e. omega arith)) (beyond words q high))
    ])
    ∙ ap (λ b. b || fin.contains (positions_of words) q) (sym (unsigned_tied q p))
    ∙ sym (fin.contains-insert nat_cmp_total (positions_of words) p q))

-- a set that has the position stays as it is
pub insert-known : (s : fin.FinSet nat_cmp) (p : ℕ) → fin.contains s p ≡ true → s ≡ fin.insert s p
insert-known s p known =
    fin.same_set nat_cmp_total fin.nat_cmp-IsAntisymmetric _ _ (λ q. (elim (cases_eq q p) [
      | inl same ↦ ap (fin.contains s) same ∙ known ∙ sym (rw (eq-eqb q p same) refl)
      | inr other ↦ sym (rw (ne_eqb q p other) refl)
    ]) ∙ ap (λ b. b || fin.contains s q) (sym (unsigned_tied q p)) ∙ sym (fin.contains-insert nat_cmp_total s p q))

pub len-insert-new : (s : fin.FinSet nat_cmp) (p : ℕ) → fin.contains s p ≡ false → fin.len (fin.insert s p) ≡ fin.len s + 1
len-insert-new s p new = fin.len-insert nat_cmp_total s p ∙ ap (λ b. cond b (fin.len s) (fin.len s + 1)) new

abbrev zeros : ℕ → List ℕ
zeros zero = []
zeros (suc n) = 0 ∷ zeros n

get_or-zeros : (n k : ℕ) → get_or (zeros n) k 0 ≡ 0
get_or-zeros zero k = refl
get_or-zeros (suc n) zero = refl
get_or-zeros (suc n) (suc k) = get_or-zeros n k

no_bits : (p : ℕ) → has_bit (zeros 16) p ≡ false
no_bits p = ap (λ n. bit_at n (p % 64) == 1) (get_or-zeros 16 (p / 64)) ∙ ap (λ n. n == 1) (bit_at-zero (p % 64))

pub no_positions : positions_of (zeros 16) ≡ fin.empty
no_positions =
    fin.same_set nat_cmp_total fin.nat_cmp-IsAntisymmetric _ _ (λ q.
    (elim (cases_lt q 1024) [
      | inl low ↦ contains-positions_of _ q low ∙ no_bits q
      | inr high ↦ beyond _ q high
    ]) ∙ sym (fin.contains-empty nat_cmp q))
