-- The masks of processes in a list of entries, of which the first counts.
use Rattle.std.specs.Prelude.{◌≡◌, ℕ, ◌<◌, List, length, take, get_or, Option, None, Some, if◌then◌else◌}
use Rattle.std.specs.Map.{lookup}
use Rattle.std.specs.BTreeMap.{is_at}
use Rattle.rapid_model.specs.Process.{Process, process_cmp, same_bytes}
use Rattle.rapid_cut.specs.declared.mask.Masks.{Masks}

-- The masks of a process, if it has some.
abbrev pub masks_at : List (Process × Masks) → Process → Option Masks
masks_at es s = lookup (is_at (process_cmp s)) es

-- The first entry of the process stands at the place.
pub record StandsAt (es : List (Process × Masks)) (s : Process) (place : ℕ) : Type 0 where
  pub within : place < length es
  pub own : (d : Process × Masks) → (get_or es place d).0 ≡ s
  pub first : masks_at (take place es) s ≡ None

-- In the new list a process has these masks, and others have those of the old list.
abbrev pub PutsMasks : Process → Masks → List (Process × Masks) → List (Process × Masks) → Type 0
PutsMasks s m old new = (q : Process) → masks_at new q ≡ (if same_bytes s q then Some m else masks_at old q)
