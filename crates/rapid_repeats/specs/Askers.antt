-- Clauses of private calls cite this file, and so does the value of what was asked.
-- Who asks, by place.
use Rattle.std.specs.Prelude.{◌≡◌, ℕ, List, [], map, slice_get, unwrap_or, All, Some, IsSome}
use Rattle.rapid_model.specs.Process.{Process}
use Rattle.rapid_repeats.specs.declared.said.Asked.{Asked}

-- Who stands at a place.
abbrev pub asker_at : List Process → ℕ → Process
asker_at askers place = unwrap_or (slice_get askers place) []

-- Who asked what, and when.
abbrev pub question_of : List Process → (ℕ × Asked) × ℕ → (Process × Asked) × ℕ
question_of askers e = ((asker_at askers e.0.0, e.0.1), e.1)

abbrev pub questions_in : List Process → List ((ℕ × Asked) × ℕ) → List ((Process × Asked) × ℕ)
questions_in askers times = map (question_of askers) times

-- Somebody stands at each place.
abbrev pub ArePlaces : List Process → List ((ℕ × Asked) × ℕ) → Type 0
ArePlaces askers times = All (λ e. IsSome (slice_get askers e.0.0)) times

-- All stay where they are.
abbrev pub StaysIn : List Process → List Process → Type 0
StaysIn old new = (i : ℕ) (p : Process) → slice_get old i ≡ Some p → slice_get new i ≡ Some p
