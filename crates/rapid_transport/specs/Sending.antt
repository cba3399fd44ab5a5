-- Clauses of public calls cite this file.
-- What a writer holds after a frame was not sent.
use Rattle.std.specs.Prelude.{◌≡◌, ◌≢◌, ℕ, List, [], ◌++◌, Option}
use Rattle.std.specs.Io.KnownBytes.{Appends}

-- A beginning of the bytes was written, and not all of them.
pub record WritesPart (old new : Option (List ℕ)) (bytes : List ℕ) : Type 0 where
  pub written : List ℕ
  pub rest : List ℕ
  pub is : bytes ≡ written ++ rest
  pub not_all : rest ≢ []
  pub appended : Appends old new written
