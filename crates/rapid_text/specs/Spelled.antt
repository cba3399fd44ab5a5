-- Numbers, read digit by digit.
use Rattle.std.specs.Prelude.{ℕ, ◌+◌, ◌-◌, ◌*◌, ◌^◌, ◌&&◌, List, [], ◌∷◌, nat_lt, if◌then◌else◌, Option, Some, None}
use Rattle.rapid_model.specs.EndpointText.{is_digit}

-- The number with one more digit.
abbrev pub with_digit : ℕ → ℕ → ℕ
with_digit n d = n * 10 + (d - 48)

-- The number that a number and the digits after it spell, as long as it is below 2^64.
abbrev pub spelled_from : ℕ → List ℕ → Option ℕ
spelled_from n [] = Some n
spelled_from n (d ∷ ds) = if is_digit d && nat_lt (with_digit n d) (2 ^ 64) then spelled_from (with_digit n d) ds else None
