-- Clauses of public calls cite this file.
-- The edges that a node observes in a view, their board, and the parts into which their probes are cut.
use Rattle.std.specs.Prelude.{◌≡◌, ◌≢◌, ℕ, ◌<◌, ◌%◌, ◌==◌, Bool, true, false, if◌then◌else◌, List, [], map, zip, flat_map, length, get_or, Option, Some, None, option_to_list}
use Rattle.std.specs.List.{range_with_len}
use Rattle.rapid_model.specs.Bytes.{ConfigurationId}
use Rattle.rapid_model.specs.Configuration.{Configuration, configuration_id}
use Rattle.rapid_model.specs.Process.{Process}
use Rattle.rapid_monitor.specs.BoardRule.{IsIn}
use Rattle.rapid_monitor.specs.Boards.{Watching, Owned, IsSize, fresh_watcher, fresh_seat}
use Rattle.rapid_monitor.specs.Probes.{BookValue, book_when, part_of}
use Rattle.rapid_rounds.specs.declared.edge_state.EdgeState.{EdgeState}
use Rattle.rapid_rounds.specs.declared.part.Part.{Part}

-- The board of as many edges, with one watcher, which knows nothing, and a seat for each edge, by edge. There is none
-- exactly if no board has as many.
abbrev pub IsBoard : ℕ → Option Watching → List Owned → Type 0
IsBoard edges None seats = (¬ IsSize edges 1) × (seats ≡ [])
IsBoard edges (Some b) seats = (b ≡ fresh_watcher b.board edges) × (seats ≡ map (fresh_seat b.board) (range_with_len 0 edges))

-- A watcher, if there is one, looks at the same board as before.
abbrev pub SameBoard : Option Watching → Option Watching → Type 0
SameBoard None new = new ≡ None
SameBoard (Some b) None = ⊥
SameBoard (Some b) (Some c) = (c.board ≡ b.board) × (c.edges ≡ b.edges)

-- A watcher, if there is one, knows the edge with this number to be down.
abbrev pub KnowsDown : Option Watching → ℕ → Type 0
KnowsDown None edge = ⊥
KnowsDown (Some b) edge = (edge < b.edges) × IsIn edge b.known

-- Whether an edge is down is what a watcher answers: yes exactly if it knows so afterwards. Of others it learns nothing.
pub record Answered (old new : Option Watching) (edge : ℕ) (is_down : Bool) : Type 0 where
  pub down : is_down ≡ true → KnowsDown new edge
  pub known : KnowsDown new edge → is_down ≡ true
  pub others : (other : ℕ) → other ≢ edge → KnowsDown new other → KnowsDown old other
  pub kept : (other : ℕ) → KnowsDown old other → KnowsDown new other

-- Whether each edge is down, by number, is what a watcher answers: yes exactly if it knows so afterwards. What it knew
-- before it still knows.
pub record AllAnswered (old new : Option Watching) (downs : List Bool) : Type 0 where
  pub down : (edge : ℕ) → edge < length downs → get_or downs edge false ≡ true → KnowsDown new edge
  pub known : (edge : ℕ) → edge < length downs → KnowsDown new edge → get_or downs edge false ≡ true
  pub kept : (edge : ℕ) → KnowsDown old edge → KnowsDown new edge

-- The configuration of a part, and its book.
abbrev pub told_of : Part → ConfigurationId × BookValue
told_of p = (p.id, p.book)

-- The same of a part of these edges in a configuration, in which nobody has acknowledged and no round was made.
abbrev pub blank_part : Configuration → List (ℕ × Process) → ℕ → ℕ → ConfigurationId × BookValue
blank_part c edges parts part = (configuration_id c, book_when (part_of part parts edges) false [])

-- The same of the first parts, by number.
abbrev pub all_blank : Configuration → List (ℕ × Process) → ℕ → ℕ → List (ConfigurationId × BookValue)
all_blank c edges parts count = map (blank_part c edges parts) (range_with_len 0 count)

-- The seats of a part.
abbrev pub seats_of : Part → List Owned
seats_of p = p.seats.items

-- The seat that stands beside an edge, if the ring of the edge, divided by the number of parts, leaves this one.
abbrev pub dealt_seat : ℕ → ℕ → (ℕ × Process) × Option Owned → List Owned
dealt_seat parts part x = option_to_list (if x.0.0 % parts == part then x.1 else None)

-- The seats that stand beside the edges of a part, by edge.
abbrev pub dealt_seats : List (ℕ × Process) → List (Option Owned) → ℕ → ℕ → List Owned
dealt_seats edges seats parts part = flat_map (dealt_seat parts part) (zip edges seats)

-- The same of the first parts, by number.
abbrev pub all_dealt : List (ℕ × Process) → List (Option Owned) → ℕ → ℕ → List (List Owned)
all_dealt edges seats parts count = map (dealt_seats edges seats parts) (range_with_len 0 count)

-- The ring of an edge of which something is said, and who is observed on it.
abbrev pub place_of : EdgeState → ℕ × Process
place_of s = (s.ring, s.member)

-- Whether an edge is down.
abbrev pub down_of : EdgeState → Bool
down_of s = s.is_down
