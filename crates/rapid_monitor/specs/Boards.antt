-- Clauses of public calls cite this file.
-- What the watchers and the seats of a board show.
use Rattle.std.specs.Prelude.{ℕ, Bool, true, false, ◌≤◌, List, [], if◌then◌else◌}
use Rattle.rapid_model.specs.Limits.{most_members, most_watchers}
use Rattle.atomic_table.specs.Seated.{TableId}
use Rattle.rapid_monitor.specs.BoardRule.{is_down_after}
use Rattle.rapid_monitor.specs.declared.edge.Verdict.{Verdict}
use Rattle.rapid_monitor.specs.declared.edge.Verdict.TheVariants.{Up, Down}
use Rattle.rapid_monitor.specs.declared.board_error.BoardError.{BoardError}
use Rattle.rapid_monitor.specs.declared.board_error.BoardError.TheVariants.{BadSize, OutOfMemory}

-- Which board a watcher looks at, how many edges that has, and which of them the watcher knows to be down, since it
-- answered so or was told.
pub record Watching : Type 0 where
  pub board : TableId
  pub edges : ℕ
  pub known : List ℕ

-- Of which board and edge a seat is, and the results of the edge, in order.
pub record Owned : Type 0 where
  pub board : TableId
  pub edge : ℕ
  pub results : List Bool

-- A watcher that knows nothing.
abbrev pub fresh_watcher : TableId → ℕ → Watching
fresh_watcher board edges = record { board = board; edges = edges; known = [] }

-- The seat of an edge that was not probed.
abbrev pub fresh_seat : TableId → ℕ → Owned
fresh_seat board edge = record { board = board; edge = edge; results = [] }

-- The verdict of an edge that had these results, in order.
abbrev pub verdict_after : List Bool → Verdict
verdict_after oks = if is_down_after oks then Down else Up

-- Whether a verdict is Down.
abbrev pub is_down_verdict : Verdict → Bool
is_down_verdict Up = false
is_down_verdict Down = true

-- There are boards with as many edges and watchers.
abbrev pub IsSize : ℕ → ℕ → Type 0
IsSize edges watchers = (1 ≤ edges) × (edges ≤ most_members) × (1 ≤ watchers) × (watchers ≤ most_watchers)

-- Why there is no board with as many edges and watchers.
abbrev pub IsRefusal : ℕ → ℕ → BoardError → Type 0
IsRefusal edges watchers BadSize = ¬ IsSize edges watchers
IsRefusal edges watchers OutOfMemory = IsSize edges watchers

-- The number of an error.
abbrev pub code_of : BoardError → ℕ
code_of BadSize = 1
code_of OutOfMemory = 99
