-- Clauses of private calls cite this file, and so does the value of a roster.
-- Where the processes of a list are found.
use Rattle.std.specs.Prelude.{◌≡◌, ◌⊎◌, ℕ, List, slice_get, Contains, Option, Some, IsSome}
use Rattle.std.specs.Map.{lookup}
use Rattle.rapid_model.specs.Process.{Process, same_bytes}
use Rattle.rapid_roster.specs.Heads.{head_of}
use Rattle.rapid_roster.specs.Once.{StandOnce}

-- The place that is noted for an identifier and an endpoint.
abbrev pub noted_for : List (List ℕ × ℕ) → List ℕ → Option ℕ
noted_for firsts head = lookup (same_bytes head) firsts

-- Each process of the list stands there once. A place is noted for its identifier and its endpoint: its own, or it is
-- one of the others.
pub record IsIndexed (ps : List Process) (firsts : List (List ℕ × ℕ)) (others : List ℕ) : Type 0 where
  pub distinct : StandOnce ps
  pub noted : (i : ℕ) (p : Process) → slice_get ps i ≡ Some p → IsSome (noted_for firsts (head_of p))
  pub found : (i : ℕ) (p : Process) → slice_get ps i ≡ Some p → (noted_for firsts (head_of p) ≡ Some i) ⊎ Contains others i
