-- Clauses of public calls cite this file.
-- What is proved of cut detection itself.
use Rattle.std.specs.Prelude.{◌≡◌, ◌≢◌, ◌↔◌, ◌≤◌, ◌<◌, ◌⊎◌, ◌||◌, ℕ, List, [], ◌∷◌, ◌++◌, Contains, IsTrue, Some, None}
use Rattle.std.specs.FinSet as set
use Rattle.rapid_model.specs.Process.{Process}
use Rattle.rapid_model.specs.Cut.{Cut, is_ascending}
use Rattle.rapid_model.specs.Alert.{Alert}
use Rattle.rapid_model.specs.Ring.{Observers, AreObservers}
use Rattle.rapid_model.specs.Reports.{Report, Reports, tally, is_implied, reports, stable, unstable, cut_of}
use Rattle.rapid_model.specs.Detector.{Detector, with_alerts, batch_taken, after_batch}

-- How many reports there are on a process, direct and implied.
abbrev pub reports_on : Observers → Reports → Process → ℕ
reports_on t direct s = tally t (reports t direct) s

-- A process has at least H reports.
abbrev pub HasHigh : Observers → Reports → Process → Type 0
HasHigh t direct s = t.params.h ≤ reports_on t direct s

-- A process has from L to H - 1 reports.
abbrev pub IsBetweenMarks : Observers → Reports → Process → Type 0
IsBetweenMarks t direct s = (t.params.l ≤ reports_on t direct s) × (reports_on t direct s < t.params.h)

-- The stable processes are just those with at least H reports, the unstable ones just those with L to H - 1; both lists
-- ascend.
pub record AreListed (t : Observers) (direct : Reports) : Type 0 where
  pub each_stable : (s : Process) → Contains (stable t direct) s ↔ HasHigh t direct s
  pub each_unstable : (s : Process) → Contains (unstable t direct) s ↔ IsBetweenMarks t direct s
  pub stable_ascends : IsTrue (is_ascending (stable t direct))
  pub unstable_ascends : IsTrue (is_ascending (unstable t direct))

-- These processes are some, they ascend, they are just those with at least H reports, and no process has from L to
-- H - 1.
pub record AreAllStable (t : Observers) (direct : Reports) (v : Cut) : Type 0 where
  pub some : v ≢ []
  pub ascending : IsTrue (is_ascending v)
  pub stable : (s : Process) → Contains v s ↔ HasHigh t direct s
  pub none_unstable : (s : Process) → IsBetweenMarks t direct s → ⊥

-- No process has at least H reports, or one has from L to H - 1.
abbrev pub NoneIsReady : Observers → Reports → Type 0
NoneIsReady t direct = ((s : Process) → HasHigh t direct s → ⊥) ⊎ ((s : Process) × IsBetweenMarks t direct s)

-- A process is listed as stable or unstable exactly if its number of reports says so.
abbrev pub ListsAreExact : Type 0
ListsAreExact = (t : Observers) (direct : Reports) → AreObservers t → AreListed t direct

-- A cut is found exactly if it is all that is stable, there is one, and nothing is unstable.
abbrev pub CutIsExact : Type 0
CutIsExact = (t : Observers) (direct : Reports) (v : Cut) → AreObservers t → (cut_of t direct ≡ Some v) ↔ AreAllStable t direct v

-- None is found exactly if nothing is stable or something is unstable.
abbrev pub NoCutIsExact : Type 0
NoCutIsExact = (t : Observers) (direct : Reports) → AreObservers t → (cut_of t direct ≡ None) ↔ NoneIsReady t direct

-- Two lists of the same alerts make one set of reports: neither order nor repeats matter. So they also agree on the
-- implied reports, each tally, who is stable or unstable, and the cut.
abbrev pub OrderAndRepeatsChangeNothing : Type 0
OrderAndRepeatsChangeNothing =
    (r : Reports) (xs ys : List Alert) → ((a : Alert) → Contains xs a ↔ Contains ys a) → with_alerts r xs ≡ with_alerts r ys

-- Alerts that come one list after another make the set that they make in one list: into which batches they are cut does
-- not matter.
abbrev pub BatchesAddUp : Type 0
BatchesAddUp = (r : Reports) (xs ys : List Alert) → with_alerts (with_alerts r xs) ys ≡ with_alerts r (xs ++ ys)

-- The alerts that a detector takes of batches in turn.
abbrev pub taken_in_turn : Observers → Detector → List (List Alert) → List Alert
taken_in_turn t d [] = []
taken_in_turn t d (xs ∷ batches) = batch_taken t d xs ++ taken_in_turn t (after_batch t d xs) batches

-- The detector after batches in turn.
abbrev pub after_batches : Observers → Detector → List (List Alert) → Detector
after_batches t d [] = d
after_batches t d (xs ∷ batches) = after_batches t (after_batch t d xs) batches

-- What a detector keeps after batches is the set that all alerts make that it took of them.
abbrev pub AllTakenAreKept : Type 0
AllTakenAreKept = (t : Observers) (d : Detector) (batches : List (List Alert)) → (after_batches t d batches).direct ≡ with_alerts d.direct (taken_in_turn t d batches)

-- Implied reports go only to processes that have L direct ones already, so one pass finds them all. The reports are the
-- direct ones, and each whose subject and observer both have at least L direct reports.
abbrev pub OnePassIsEnough : Type 0
OnePassIsEnough = (t : Observers) (direct : Reports) (x : Report) → AreObservers t → set.contains (reports t direct) x ≡ (set.contains direct x || is_implied t direct x)
