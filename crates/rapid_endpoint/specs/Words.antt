-- Four bytes as a number.
use Rattle.std.specs.Prelude.{◌≡◌, ℕ, ◌<◌, ◌^◌, List}
use Rattle.std.specs.Int.{w32, to_be_bytes, from_be_bytes}
use Rattle.std.proofs.lemmas.Nat.{from_be_bytes-to_be_bytes_4}

-- The bytes of a number, high byte first. Goals about processes see this name, and not how the bytes are computed.
unfoldable pub word_bytes : ℕ → List ℕ
word_bytes n = to_be_bytes w32 n

-- The number is got back.
pub word_returns : (n : ℕ) → n < 2 ^ 32 → from_be_bytes w32 (word_bytes n) ≡ n
unfolding word_bytes
word_returns n h = from_be_bytes-to_be_bytes_4 n h
