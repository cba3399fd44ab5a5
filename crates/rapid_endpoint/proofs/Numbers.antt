-- Bytes as the digits of a number, the highest first: the numbers are ordered as the bytes are.
use Rattle.std.proofs.Common.{◌≡◌, ℕ, zero, suc, ◌+◌, ◌-◌, ◌*◌, ◌^◌, ◌<◌, ◌≤◌, List, [], ◌∷◌, length, refl, ap, sym, ◌∙◌, arith}
use Rattle.std.specs.Prelude.{All, slice_index}
use Rattle.std.specs.declared.cmp.Ordering.{Ordering}
use Rattle.std.specs.declared.cmp.Ordering.TheVariants.{Less, Equal, Greater}
use Rattle.std.specs.Ordering.{ordering_then, nat_cmp, MatchOrdering}
use Rattle.std.specs.Cmp.{nat_cmp_is, ranks}
use Rattle.std.specs.Int.{w128, from_be_bytes, sum_through, byte_worth}
use Rattle.std.proofs.Math.Nat.{mul-le-mul_right}
use Rattle.std.proofs.lemmas.List.Elements.{All-tail}
use Rattle.rapid_model.specs.Process.{bytes_cmp}

-- What the bytes are worth.
abbrev worth : List ℕ → ℕ
worth [] = 0
worth (b ∷ bs) = b * 256 ^ length bs + worth bs

power_more : (n : ℕ) → 256 ^ suc n ≡ 256 * 256 ^ n
power_more n = grind arith

worth_below : (bs : List ℕ) → All (λ b. b < 256) bs → worth bs < 256 ^ length bs
worth_below [] h = omega arith
worth_below (b ∷ bs) h =
    let more = worth_below bs (All-tail (λ b. b < 256) _ _ h) in
    let top : b * 256 ^ length bs ≤ 255 * 256 ^ length bs = mul-le-mul_right (256 ^ length bs) (let first : b < 256 = h 0 0 (omega arith) in omega arith) in
    let power : 256 ^ suc (length bs) ≡ 256 * 256 ^ length bs = power_more (length bs) in
    omega arith

through_same : (f g : ℕ → ℕ) (n : ℕ) → ((i : ℕ) → f i ≡ g i) → sum_through f n ≡ sum_through g n
through_same f g zero h = h 0
through_same f g (suc n) h = λ i. through_same f g n h i + h (suc n) i

first_apart : (f : ℕ → ℕ) (n : ℕ) → sum_through f (suc n) ≡ f 0 + sum_through (λ i. f (suc i)) n
first_apart f zero = refl
first_apart f (suc n) = let more = first_apart f n in omega arith

abbrev digits : List ℕ → ℕ → ℕ → ℕ
digits bs n i = byte_worth (n - i) (slice_index bs i)

worth_is : (n : ℕ) (bs : List ℕ) → length bs ≡ suc n → sum_through (digits bs n) n ≡ worth bs
worth_is n [] e = absurd (omega arith)
worth_is zero (b ∷ []) e = omega arith
worth_is zero (b ∷ c ∷ bs) e = absurd (omega arith)
worth_is (suc n) (b ∷ bs) e =
    let long : length bs ≡ suc n = omega arith in
    let lower : (i : ℕ) → digits (b ∷ bs) (suc n) (suc i) ≡ digits bs n i =
    λ i. let d : suc n - suc i ≡ n - i = omega arith in ap (λ (k : ℕ). byte_worth k (slice_index bs i)) d in
    let none : suc n - 0 ≡ suc n = omega arith in
    first_apart (digits (b ∷ bs) (suc n)) n
    ∙ ap (λ (k : ℕ). byte_worth k b + sum_through (λ i. digits (b ∷ bs) (suc n) (suc i)) n) none
    ∙ ap (λ (m : ℕ). b * 256 ^ suc n + m)
    (through_same (λ i. digits (b ∷ bs) (suc n) (suc i)) (digits bs n) n lower ∙ worth_is n bs long)
    ∙ ap (λ (m : ℕ). b * 256 ^ m + worth bs) (sym long)

-- The higher digit decides, and else the rest does.
by_digits : (x y w v p : ℕ) → w < p → v < p → ordering_then (nat_cmp x y) (nat_cmp w v) ≡ nat_cmp (x * p + w) (y * p + v)
by_digits x y w v p below under = by (nat_cmp x y) (ranks x y)
  where
    by : (r : Ordering) → MatchOrdering r (x < y) (x ≡ y) (y < x) → ordering_then r (nat_cmp w v) ≡ nat_cmp (x * p + w) (y * p + v)
    by Less h = nat_cmp_is (x * p + w) (y * p + v) Less (let more : suc x * p ≤ y * p = mul-le-mul_right p h in omega arith)
    by Greater h = nat_cmp_is (x * p + w) (y * p + v) Greater (let more : suc y * p ≤ x * p = mul-le-mul_right p h in omega arith)
    by Equal h = last (nat_cmp w v) (ranks w v)
      where
        same : x * p ≡ y * p
        same = ap (λ (m : ℕ). m * p) h

        last : (r : Ordering) → MatchOrdering r (w < v) (w ≡ v) (v < w) → r ≡ nat_cmp (x * p + w) (y * p + v)
        last Less k = nat_cmp_is (x * p + w) (y * p + v) Less (let e = same in omega arith)
        last Equal k = nat_cmp_is (x * p + w) (y * p + v) Equal (let e = same in omega arith)
        last Greater k = nat_cmp_is (x * p + w) (y * p + v) Greater (let e = same in omega arith)

worths_compare : (xs ys : List ℕ) → length xs ≡ length ys → All (λ b. b < 256) xs → All (λ b. b < 256) ys
    → bytes_cmp xs ys ≡ nat_cmp (worth xs) (worth ys)
worths_compare [] [] e h k = refl
worths_compare [] (y ∷ ys) e h k = absurd (omega arith)
worths_compare (x ∷ xs) [] e h k = absurd (omega arith)
worths_compare (x ∷ xs) (y ∷ ys) e h k =
    let long : length xs ≡ length ys = omega arith in
    ap (ordering_then (nat_cmp x y)) (worths_compare xs ys long (All-tail (λ b. b < 256) _ _ h) (All-tail (λ b. b < 256) _ _ k))
    ∙ by_digits x y (worth xs) (worth ys) (256 ^ length xs) (worth_below xs (All-tail (λ b. b < 256) _ _ h)) (rw long (worth_below ys (All-tail (λ b. b < 256) _ _ k)))
    ∙ ap (λ (m : ℕ). nat_cmp (x * 256 ^ length xs + worth xs) (y * 256 ^ m + worth ys)) long

-- Numbers of sixteen bytes compare as their bytes do.
pub cmp_sixteen : (xs ys : List ℕ) → length xs ≡ 16 → length ys ≡ 16 → All (λ b. b < 256) xs → All (λ b. b < 256) ys
    → nat_cmp (from_be_bytes w128 xs) (from_be_bytes w128 ys) ≡ bytes_cmp xs ys
cmp_sixteen xs ys e f h k =
    (λ i. nat_cmp (worth_is 15 xs e i) (worth_is 15 ys f i)) ∙ sym (worths_compare xs ys (e ∙ sym f) h k)
