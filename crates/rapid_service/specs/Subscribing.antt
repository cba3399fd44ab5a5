-- Clauses of public calls cite this file.
-- Whom the desk of a service serves after a subscription was refused.
use Rattle.std.specs.Prelude.{◌≡◌, ◌⊎◌, ℕ, List, [], ◌∷◌, ◌++◌}
use Rattle.rapid_desk.specs.Notices.{Served}
use Rattle.rapid_desk.specs.Desks.{DeskValue, shown_height}
use Rattle.rapid_desk.specs.declared.error.DeskError.{DeskError}
use Rattle.rapid_desk.specs.declared.error.DeskError.TheVariants.{OutOfMemory}

-- A subscription of this capacity for which nothing was put: it gets the views that come after what is published.
abbrev pub IsNewAt : DeskValue → ℕ → Served → Type 0
IsNewAt desk capacity s = (s.since ≡ shown_height desk.state.published) × (s.capacity ≡ capacity) × (s.put ≡ []) × (s.known ≡ [])

-- It serves whom it served. If out of memory it may serve one more behind them.
abbrev pub StillServes : DeskValue → ℕ → DeskError → List Served → Type 0
StillServes desk capacity error new = (new ≡ desk.subscriptions) ⊎ ((error ≡ OutOfMemory) × ((s : Served) × (new ≡ desk.subscriptions ++ s ∷ []) × IsNewAt desk capacity s))
