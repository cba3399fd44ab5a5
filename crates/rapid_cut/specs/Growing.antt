-- Reports that were added, and those before.
use Rattle.std.specs.Prelude.{◌≡◌, ℕ, Bool, not, ◌&&◌, ◌||◌, List, ◌∷◌, Option, Some, None, if◌then◌else◌}
use Rattle.std.specs.List.{list_any}
use Rattle.std.specs.FinSet as set
use Rattle.rapid_model.specs.Process.{Process, is_in, same_bytes}
use Rattle.rapid_model.specs.Ring.{Observers}
use Rattle.rapid_model.specs.Reports.{Report, Reports, reaches_low}
use Rattle.rapid_cut.specs.declared.mask.Masks.{Masks}
use Rattle.rapid_cut.specs.declared.growing.Added.{Added}
use Rattle.rapid_cut.specs.declared.growing.GrowingReports.{GrowingReports}
use Rattle.rapid_alerts.specs.RingMasks.{has_ring}
use Rattle.rapid_cut.specs.Known.{Known}

-- The report is on this process, for a ring of the mask.
abbrev pub is_for : Process → ℕ → Report → Bool
is_for s mask x = same_bytes s x.0 && has_ring mask x.1

-- On this process the new set has the reports for the rings of the mask, and on others those of the old set.
abbrev pub PutsMask : Process → ℕ → Reports → Reports → Type 0
PutsMask s mask old new = (x : Report) → set.contains new x ≡ (if same_bytes s x.0 then has_ring mask x.1 else set.contains old x)

-- The new set is the old one with the reports on this process for the rings of the mask.
abbrev pub AddsRings : Process → ℕ → Reports → Reports → Type 0
AddsRings s mask old new = (x : Report) → set.contains new x ≡ (is_for s mask x || set.contains old x)

-- The new set is the old one without the reports on this process for the rings of the mask.
abbrev pub TakesOut : Process → ℕ → Reports → Reports → Type 0
TakesOut s mask old new = (x : Report) → set.contains new x ≡ (not (is_for s mask x) && set.contains old x)

-- The report was added, as this part of the masks says.
abbrev pub is_added : (Masks → ℕ) → List Added → Report → Bool
is_added part xs x = list_any (λ a. is_for a.subject (part a.rings) x) xs

-- The set without what was added, as this part of the masks says.
abbrev pub without_added : (Masks → ℕ) → Reports → List Added → Reports
without_added part r xs = set.retain r (λ x. not (is_added part xs x))

-- What was known before all this was added.
abbrev pub without_all : Known → List Added → Known
without_all r xs = record { direct = without_added (λ m. m.direct) r.direct xs; all = without_added (λ m. m.all) r.all xs }

-- All that was added: the last addition, if there is one, and the others.
abbrev pub all_added : Option Added → List Added → List Added
all_added None xs = xs
all_added (Some a) xs = a ∷ xs

-- What was known before.
abbrev pub before : GrowingReports → Known
before g = without_all g.reports (all_added g.last g.others.items)

-- These processes are those that have at least L reports now and had not.
pub record HaveGrown (t : Observers) (old new : Reports) (grown : List Process) : Type 0 where
  pub low : (q : Process) → reaches_low t new (Some q) ≡ (reaches_low t old (Some q) || is_in grown q)
