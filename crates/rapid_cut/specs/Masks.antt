-- The reports that masks of rings stand for.
use Rattle.std.specs.Prelude.{ℕ, Bool, List, filter}
use Rattle.std.specs.Option.{unwrap_or}
use Rattle.std.specs.FinSet as set
use Rattle.std.specs.Map.{keys_of, lookup}
use Rattle.std.specs.BTreeMap.{is_at}
use Rattle.rapid_model.specs.Process.{Process, process_cmp}
use Rattle.rapid_model.specs.Reports.{Report, Reports}
use Rattle.rapid_alerts.specs.RingMasks.{has_ring, with_rings}

-- The mask of a process, 0 if it has none.
abbrev pub mask_of : List (Process × ℕ) → Process → ℕ
mask_of es s = unwrap_or (lookup (is_at (process_cmp s)) es) 0

-- The mask of the report's subject has its ring.
abbrev pub is_reported : List (Process × ℕ) → Report → Bool
is_reported es x = has_ring (mask_of es x.0) x.1

-- The reports of processes with masks.
unfoldable pub reports_in : List (Process × ℕ) → Reports
reports_in es = set.from_list (filter (is_reported es) (with_rings (keys_of es)))
