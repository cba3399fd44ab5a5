-- What is known of the reports that were taken.
use Rattle.std.specs.Prelude.{◌≡◌, ◌≤◌, ℕ, Bool, true, false, List, length, None}
use Rattle.rapid_model.specs.Process.{Process, is_in}
use Rattle.rapid_model.specs.Ring.{Observers, AreObservers, IsObserved}
use Rattle.rapid_model.specs.Reports.{Reports, subjects, reports, cut_of}
use Rattle.rapid_cut.specs.Closing.{active}
use Rattle.rapid_model.specs.Detector.{joiners}
use Rattle.rapid_model.specs.Limits.{most_joiners}

-- Each subject has an observer, and at most 512 of them are joiners.
pub record IsWithinLimits (t : Observers) (r : Reports) : Type 0 where
  pub observed : (s : Process) → is_in (subjects r) s ≡ true → IsObserved t s
  pub joiners : length (joiners t r) ≤ most_joiners

-- What a detector keeps beside its value: all that the direct reports imply.
pub record IsDetecting (t : Observers) (direct all : Reports) : Type 0 where
  pub rules : AreObservers t
  pub closure : all ≡ reports t direct
  pub limits : IsWithinLimits t direct

-- What it keeps, lists and counters too: which processes have L direct reports, how many joiners are reported on, and
-- that there is no cut until it is closed.
pub record IsKept (t : Observers) (direct all : Reports) (listed : List Process) (joined : ℕ) (closed : Bool) : Type 0 where
  pub detecting : IsDetecting t direct all
  pub active : listed ≡ active t direct
  pub count : joined ≡ length (joiners t direct)
  pub none_yet : closed ≡ false → cut_of t direct ≡ None
