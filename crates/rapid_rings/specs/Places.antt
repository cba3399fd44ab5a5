-- Places that may be none, as numbers.
use Rattle.std.specs.Prelude.{◌≡◌, ℕ, zero, suc, ◌+◌, ◌-◌, ◌==◌, if◌then◌else◌, Option, None, Some, refl}
use Rattle.std.proofs.Common.{ap, ◌∙◌, arith}
use Rattle.std.proofs.Math.Dec.{eqb-suc-zero}

-- The place that a number stands for: 0 for none, any other for the place before it.
abbrev pub place_of : ℕ → Option ℕ
place_of n = if n == 0 then None else Some (n - 1)

-- The number that stands for a place.
abbrev pub number_of : Option ℕ → ℕ
number_of None = 0
number_of (Some i) = i + 1

pub same_number : (n : ℕ) → number_of (place_of n) ≡ n
same_number zero = refl
same_number (suc i) = let e : (suc i - 1) + 1 ≡ suc i = omega arith in ap (λ b. number_of (if b then None else Some (suc i - 1))) (eqb-suc-zero i) ∙ e
