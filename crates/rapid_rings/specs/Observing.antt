-- Clauses of public calls cite this file.
-- Who observes nobody.
use Rattle.std.specs.Prelude.{◌≡◌, ℕ, Some}
use Rattle.rapid_model.specs.Process.{Process}
use Rattle.rapid_model.specs.Ring.{Observers}

-- Nobody has o as an observer, on any ring.
abbrev pub ObservesNobody : Observers → Process → Type 0
ObservesNobody t o = (k : ℕ) (s : Process) → t.observer k s ≡ Some o → ⊥

-- No process is its own observer, on any ring.
abbrev pub NoneObservesItself : Observers → Type 0
NoneObservesItself t = (k : ℕ) (s : Process) → t.observer k s ≡ Some s → ⊥
