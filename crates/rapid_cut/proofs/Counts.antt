-- How many rings a mask has.
use Rattle.std.proofs.Common.{◌≡◌, ℕ, zero, suc, ◌+◌, ◌-◌, ◌/◌, ◌%◌, ◌^◌, ◌<◌, ◌≤◌, Bool, true, false, cond, ◌&&◌, ◌==◌, count_by, count_ones, refl, sym, ap, ◌∙◌, ◌⊎◌, inl, inr, arith, nat_lt, bit_and}
use Rattle.std.specs.List.{range_with_len}
use Rattle.std.specs.Int.{bit_at}
use Rattle.std.specs.Int.Count.{ones-ones}
use Rattle.std.proofs.Math.Nat.{div-div-eq-div-mul, mod-one, mod-lt, mod-eq_of_lt, lt_of_lt_of_le}
use Rattle.std.proofs.Math.Pow.{pow_mono}
use Rattle.std.proofs.lemmas.Nat.{and_mask, ones_cat, ones_le_self, mod-pow-add, pow-add}
use Rattle.std.proofs.lemmas.List.Sums.{sum_by-cons}
use Rattle.std.proofs.lemmas.Nat.Bits.{bit_at_above}
use Rattle.rapid_alerts.specs.RingMasks.{has_ring}
use Rattle.rapid_cut.proofs.Masks.{count_same}

none_set : count_ones 0 ≡ 0
none_set = let h = ones_le_self 0 in omega (arith, h)

digit : (d : ℕ) → d < 2 → cond (d == 1) 1 0 ≡ count_ones d
digit d h =
    elim (one_bit d h) [
      | inl e ↦ ap (λ n. cond (n == 1) 1 0) e ∙ sym (ap count_ones e ∙ none_set)
      | inr e ↦ ap (λ n. cond (n == 1) 1 0) e ∙ sym (ap count_ones e ∙ ones-ones 1)
    ]
  where
    one_bit : (n : ℕ) → n < 2 → (n ≡ 0) ⊎ (n ≡ 1)
    one_bit n h = grind (arith, h)

abbrev is_set : ℕ → ℕ → Bool
is_set mask k = bit_at mask k == 1

-- the digits from a on
set_from : (mask n a : ℕ) → count_by (is_set mask) (range_with_len a n) ≡ count_ones (mask / 2 ^ a % 2 ^ n)
set_from mask zero a = sym (ap count_ones (mod-one (mask / 2 ^ a)) ∙ none_set)
set_from mask (suc n) a =
    let q = mask / 2 ^ a in
    let half : mask / 2 ^ (a + 1) ≡ q / 2 ^ 1 = ap (λ p. mask / p) (pow-add 2 a 1) ∙ sym (div-div-eq-div-mul mask (2 ^ a) (2 ^ 1)) in
    let low : q % 2 ^ 1 < 2 ^ 1 = mod-lt q (omega arith) in
    let whole : count_ones (q % 2 ^ (n + 1)) ≡ count_ones (q / 2 ^ 1 % 2 ^ n) + count_ones (q % 2 ^ 1) = ap count_ones (mod-pow-add q n 1) ∙ ones_cat 1 (q / 2 ^ 1 % 2 ^ n) (q % 2 ^ 1) low in
    let more : n + 1 ≡ suc n = omega arith in
    let first = digit (q % 2) (mod-lt q (omega arith)) in
    let rest = set_from mask n (a + 1) ∙ ap (λ p. count_ones (p % 2 ^ n)) half in
    let all : count_ones (q % 2 ^ suc n) ≡ count_ones (q / 2 ^ 1 % 2 ^ n) + count_ones (q % 2 ^ 1) = ap (λ m. count_ones (q % 2 ^ m)) (sym more) ∙ whole in
    sum_by-cons (λ k. cond (is_set mask k) 1 0) a (range_with_len (a + 1) n) ∙ ap (λ m. m + count_by (is_set mask) (range_with_len (a + 1) n)) first ∙ ap (λ m. count_ones (q % 2) + m) rest ∙ turn (count_ones (q % 2)) (count_ones (q / 2 ^ 1 % 2 ^ n)) ∙ sym all
  where
    turn : (a b : ℕ) → a + b ≡ b + a
    turn a b = omega arith

-- a mask has no ring from sixteen on
ring_is_set : (mask k : ℕ) → mask < 65536 → has_ring mask k ≡ is_set mask k
ring_is_set mask k within =
    elim (nat_lt k 16) as (λ b. nat_lt k 16 ≡ b → (b && is_set mask k) ≡ is_set mask k) [
      | true ↦ λ e. refl
      | false ↦ λ e. sym (ap (λ n. n == 1) (bit_at_above mask 16 k within (beyond k e)))
    ] refl
  where
    beyond : (k : ℕ) → nat_lt k 16 ≡ false → 16 ≤ k
    beyond k e = grind (arith, e)

-- the first rings of a mask
pub rings_counted : (mask n : ℕ) → mask < 65536 → count_by (has_ring mask) (range_with_len 0 n) ≡ count_ones (mask % 2 ^ n)
rings_counted mask n within =
    count_same (has_ring mask) (is_set mask) (range_with_len 0 n) (λ k. ring_is_set mask k within) ∙ set_from mask n 0 ∙ ap (λ m. count_ones (m % 2 ^ n)) (whole mask)
  where
    whole : (m : ℕ) → m / 2 ^ 0 ≡ m
    whole m = grind arith

pub first_counted : (mask n : ℕ) → mask < 65536 → count_ones (bit_and mask (2 ^ n - 1)) ≡ count_by (has_ring mask) (range_with_len 0 n)
first_counted mask n within = ap count_ones (and_mask mask n) ∙ sym (rings_counted mask n within)

pub all_counted : (mask n : ℕ) → mask < 65536 → 16 ≤ n → count_ones mask ≡ count_by (has_ring mask) (range_with_len 0 n)
all_counted mask n within l =
    let below : mask < 2 ^ n = lt_of_lt_of_le within (pow_mono l) in
    ap count_ones (sym (mod-eq_of_lt below)) ∙ sym (rings_counted mask n within)
