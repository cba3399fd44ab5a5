-- Clauses of public calls cite this file.
-- Lists without repeats.
use Rattle.std.specs.Prelude.{◌≡◌, ℕ, List, slice_get, Some}
use Rattle.rapid_model.specs.Process.{Process}

-- No process stands at two places.
abbrev pub StandOnce : List Process → Type 0
StandOnce ps = (i j : ℕ) (p : Process) → slice_get ps i ≡ Some p → slice_get ps j ≡ Some p → i ≡ j
