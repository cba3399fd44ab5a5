-- Clauses of public calls cite this file.
-- Who observes whom, as the lists that a member and a joiner are given.
use Rattle.std.specs.Prelude.{◌≡◌, ℕ, ◌<◌, ◌↔◌, false, length, slice_get, Contains, IsTrue, Some}
use Rattle.std.specs.List.{AllPairs}
use Rattle.rapid_model.specs.Process.{Process, same_bytes}
use Rattle.rapid_model.specs.Configuration.{Configuration, is_member}
use Rattle.rapid_model.specs.Ring.{observers_of, subjects_of}
use Rattle.rapid_model.specs.Host.{observers_for}

-- The pairs are exactly those of a ring and a member whose observer there is o.
abbrev pub SubjectsAreExact : Type 0
SubjectsAreExact =
    (c : Configuration) (o s : Process) (k : ℕ) →
    Contains (subjects_of c o) (k, s) ↔ ((k < c.params.k) × (IsTrue (is_member c s) × ((observers_of c).observer k s ≡ Some o)))

-- They stand by ring, and each ring stands there once at most.
abbrev pub SubjectsStandByRing : Type 0
SubjectsStandByRing = (c : Configuration) (o : Process) → AllPairs (λ x y. x.0 < y.0) (subjects_of c o)

-- If some member is not j, there is one observer for each ring, and the i-th is the one on ring i.
abbrev pub ObserversStandByRing : Type 0
ObserversStandByRing =
    (c : Configuration) (o j : Process) → IsTrue (is_member c o) → same_bytes o j ≡ false →
    (length (observers_for c j) ≡ c.params.k)
    × ((i : ℕ) → i < c.params.k → slice_get (observers_for c j) i ≡ (observers_of c).observer i j)
