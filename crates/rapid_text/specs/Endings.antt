-- Clauses of public calls cite this file.
-- Where lines end.
use Rattle.std.specs.Prelude.{◌≡◌, ℕ, ◌+◌, ◌<◌, ◌⊎◌, Bool, not, ◌==◌, List, [], ◌∷◌, ◌++◌, length, if◌then◌else◌}
use Rattle.std.specs.List.{list_all}
use Rattle.rapid_model.specs.Limits.{longest_line}
use Rattle.rapid_model.specs.Lines.{line_feed, carriage_return}

-- No line ends in these bytes.
abbrev pub has_no_end : List ℕ → Bool
has_no_end xs = list_all (λ b. not (b == line_feed)) xs

-- The bytes without one carriage return at their end.
abbrev pub without_return : List ℕ → List ℕ
without_return [] = []
without_return (x ∷ []) = if x == carriage_return then [] else x ∷ []
without_return (x ∷ y ∷ ys) = x ∷ without_return (y ∷ ys)

-- All of a line is kept, or both the line and what is kept of it are too long.
abbrev pub Keeps : List ℕ → List ℕ → Type 0
Keeps line kept = (kept ≡ line) ⊎ ((longest_line + 1 < length line) × (longest_line + 1 < length kept))

-- The second is a beginning of the first.
abbrev pub BeginsWith : List ℕ → List ℕ → Type 0
BeginsWith whole front = (rest : List ℕ) × (whole ≡ front ++ rest)
