-- Clauses of public calls cite this file.
-- What was said by positions, of which only what each said first counts.
use Rattle.std.specs.Prelude.{ℕ, ◌<◌, Bool, false, ◌==◌, List, All, Option, Some, None}
use Rattle.std.specs.List.{find}
use Rattle.std.specs.Option.{option_map}

-- What the position said first, none if it said nothing.
abbrev pub first : {X : Type 0} → List (ℕ × X) → ℕ → Option X
first said p = option_map (λ x. x.1) (find (λ x. x.0 == p) said)

-- There is something, and it passes the test.
abbrev pub passes : {X : Type 0} → (X → Bool) → Option X → Bool
passes test None = false
passes test (Some x) = test x

-- The positions of which what they said first passes the test.
abbrev pub firsts : {X : Type 0} → (X → Bool) → List (ℕ × X) → ℕ → Bool
firsts test said p = passes test (first said p)

-- Whoever spoke is one of n members.
abbrev pub OfMembers : {X : Type 0} → ℕ → List (ℕ × X) → Type 0
OfMembers n said = All (λ x. x.0 < n) said
