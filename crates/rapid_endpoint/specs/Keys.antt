-- An identifier and an endpoint together.
use Rattle.std.specs.Prelude.{◌≡◌, ℕ, ◌<◌, List, length, All}

-- These bytes are an identifier and an endpoint.
pub record IsKey (key : List ℕ) : Type 0 where
  pub length : length key ≡ 22
  pub bytes : All (λ b. b < 256) key
