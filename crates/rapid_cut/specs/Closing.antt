-- What the pass adds to a set of reports.
use Rattle.std.specs.Prelude.{◌≡◌, ℕ, Bool, true, false, ◌⊎◌, List, filter, Option, Some, None}
use Rattle.std.specs.FinSet as set
use Rattle.rapid_model.specs.Process.{Process, is_in}
use Rattle.rapid_model.specs.Ring.{Observers}
use Rattle.rapid_model.specs.Reports.{Report, Reports, reaches_low, is_implied, Includes, subjects}

-- The new set is the old one with reports that the direct ones imply, among them each that is on s.
pub record AddsImplied (t : Observers) (direct : Reports) (s : Process) (old new : Reports) : Type 0 where
  pub includes : Includes new old
  pub implied : (x : Report) → set.contains new x ≡ true → (set.contains old x ≡ true) ⊎ (is_implied t direct x ≡ true)
  pub all : (k : ℕ) → is_implied t direct (s, k) ≡ true → set.contains new (s, k) ≡ true

-- The processes with at least L reports, ascending.
abbrev pub active : Observers → Reports → List Process
active t r = filter (λ s. reaches_low t r (Some s)) (subjects r)

-- These are the direct reports with some of those that they imply.
pub record IsBetween (t : Observers) (direct known : Reports) : Type 0 where
  pub includes : Includes known direct
  pub implied : (x : Report) → set.contains known x ≡ true → (set.contains direct x ≡ true) ⊎ (is_implied t direct x ≡ true)

-- These are the direct reports with some of those that they imply. What misses is on the processes that are left, which
-- have at least L direct reports.
pub record IsPassing (t : Observers) (direct : Reports) (left : List Process) (all : Reports) : Type 0 where
  pub between : IsBetween t direct all
  pub low : (s : Process) → is_in left s ≡ true → reaches_low t direct (Some s) ≡ true
  pub rest : (x : Report) → is_implied t direct x ≡ true → (set.contains all x ≡ true) ⊎ (is_in left x.0 ≡ true)

-- There is such a process, and it is among these.
abbrev pub is_one_of : List Process → Option Process → Bool
is_one_of ps None = false
is_one_of ps (Some p) = is_in ps p

-- These have at least L direct reports. What the direct ones imply is known, unless it is on one of these, or one of
-- these observes its subject.
pub record HaveCome (t : Observers) (direct all : Reports) (grown : List Process) : Type 0 where
  pub low : (s : Process) → is_in grown s ≡ true → reaches_low t direct (Some s) ≡ true
  pub rest : (x : Report) → is_implied t direct x ≡ true → (set.contains all x ≡ true) ⊎ ((is_in grown x.0 ≡ true) ⊎ (is_one_of grown (t.observer x.1 x.0) ≡ true))
