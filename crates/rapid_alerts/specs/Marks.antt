-- What is kept of the alerts on a subject, and the index that it stands for.
use Rattle.std.specs.Prelude.{◌≡◌, ℕ, Bool, false, T, List, filter, Option, Some, None}
use Rattle.std.specs.Option.{unwrap_or}
use Rattle.std.specs.FinMap.Entries.{is_sorted}
use Rattle.std.specs.FinSet as set
use Rattle.std.specs.Map.{keys_of, lookup}
use Rattle.std.specs.BTreeMap.{is_at}
use Rattle.rapid_model.specs.Process.{Process, ProcessSet, process_cmp}
use Rattle.rapid_model.specs.Reports.{Report, Reports}
use Rattle.rapid_model.specs.Outbox as outbox
use Rattle.rapid_alerts.specs.declared.mark.Marks.{Marks}
use Rattle.rapid_alerts.specs.RingMasks.{has_ring, with_rings}
use Rattle.rapid_alerts.specs.Outboxes.{Index}

-- What is kept of a subject without alerts.
abbrev pub no_marks : Marks
no_marks = record { rings = 0; place = 65535; joins = false }

-- What is kept of the alerts on a subject.
abbrev pub marks_of : List (Process × Marks) → Process → Marks
marks_of es s = unwrap_or (lookup (is_at (process_cmp s)) es) no_marks

-- An alert on the report's subject is for its ring.
abbrev pub is_reported : List (Process × Marks) → Report → Bool
is_reported es x = has_ring (marks_of es x.0).rings x.1

-- An alert asks to let the process in.
abbrev pub is_joiner : List (Process × Marks) → Process → Bool
is_joiner es s = (marks_of es s).joins

-- What the alerts report.
unfoldable pub reports_in : List (Process × Marks) → Reports
reports_in es = set.from_list (filter (is_reported es) (with_rings (keys_of es)))

-- The joiners that they are on.
unfoldable pub joiners_of : List (Process × Marks) → ProcessSet
joiners_of es = set.from_list (filter (is_joiner es) (keys_of es))

-- The index of these alerts.
abbrev pub index_in : List (Process × Marks) → Index
index_in es = record { reports = reports_in es; joiners = joiners_of es }

-- The entries ascend by their subjects, and so many of these are joiners.
pub record IsIndex (es : List (Process × Marks)) (joiners : ℕ) : Type 0 where
  pub ascend : T (is_sorted process_cmp es)
  pub counted : joiners ≡ set.len (joiners_of es)

-- These marks are what the index has of the alerts on this subject.
pub record IsOn (i : Index) (s : Process) (m : Marks) : Type 0 where
  pub rings : (k : ℕ) → set.contains i.reports (s, k) ≡ has_ring m.rings k
  pub joins : set.contains i.joiners s ≡ m.joins

-- What was answered to an alert that was not refused: it is raised, unless it was raised before.
abbrev pub answer_on : Option Marks → outbox.Raising
answer_on None = outbox.Already
answer_on (Some m) = outbox.Raised
