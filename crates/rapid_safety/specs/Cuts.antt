-- Clauses of public calls cite this file.
-- What a cut says of the alerts that have it.
use Rattle.std.specs.Prelude.{◌≡◌, ◌≢◌, ◌≤◌, ◌↔◌, List, [], Contains, Some}
use Rattle.rapid_model.specs.Process.{Process}
use Rattle.rapid_model.specs.Cut.{Cut}
use Rattle.rapid_model.specs.Configuration.{AreParams}
use Rattle.rapid_model.specs.Ring.{Observers}
use Rattle.rapid_model.specs.Alert.{Alert}
use Rattle.rapid_model.specs.Reports.{direct_reports, reports, tally, cut_of}

-- There is a process in the cut, its processes are just those with at least H reports, and none has from L to H - 1.
pub record IsCutOf (t : Observers) (alerts : List Alert) (v : Cut) : Type 0 where
  pub some : v ≢ []
  pub stable : (s : Process) → Contains v s ↔ (t.params.h ≤ tally t (reports t (direct_reports t alerts)) s)
  pub none_unstable : (s : Process) → t.params.l ≤ tally t (reports t (direct_reports t alerts)) s → t.params.h ≤ tally t (reports t (direct_reports t alerts)) s

-- What is found as the cut of some alerts is so.
abbrev pub CutsAreWhole : Type 0
CutsAreWhole = (t : Observers) (alerts : List Alert) (v : Cut) → AreParams t.params → cut_of t (direct_reports t alerts) ≡ Some v → IsCutOf t alerts v
