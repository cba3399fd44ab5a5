-- What a table keeps: the processes that it names, and a row for each.
use Rattle.std.specs.Prelude.{◌≡◌, ℕ, suc, ◌<◌, Bool, false, not, ◌&&◌, ◌||◌, List, [], ◌∷◌, ◌++◌, length, replicate, get_or, slice_get, position, All, if◌then◌else◌, Option, None, Some}
use Rattle.std.specs.List.{cons_option}
use Rattle.std.specs.Option.{option_map, option_and_then}
use Rattle.std.specs.FinSet as set
use Rattle.std.specs.FinMap as finmap
use Rattle.rapid_model.specs.Limits.{most_rings}
use Rattle.rapid_model.specs.Process.{Process, ProcessSet, same_bytes}
use Rattle.rapid_model.specs.Configuration.{Params}
use Rattle.rapid_model.specs.Reports.{Report}
use Rattle.rapid_model.specs.Table.{Table, TableEdges, IsTable, table_subjects, observed_members}
use Rattle.rapid_roster.specs.Once.{StandOnce}
use Rattle.rapid_rings.specs.declared.row.Row.{Row}

-- The processes, and their rows at the same places.
pub record Rows : Type 0 where
  pub names : List Process
  pub rows : List Row

-- Nobody is named.
abbrev pub no_rows : Rows
no_rows = record { names = []; rows = [] }

-- The row of a process of which nothing was said but its name.
abbrev pub blank : Row
blank = record { is_joiner = false; is_observed = false; observers = replicate most_rings None }

-- ---- what is found of a process

-- Its place, if it is named.
abbrev pub place_in : Rows → Process → Option ℕ
place_in x p = position (same_bytes p) x.names

-- Its row, if it is named.
abbrev pub row_in : Rows → Process → Option Row
row_in x p = option_and_then (slice_get x.rows) (place_in x p)

-- Whether there is a row, and it says so.
abbrev pub row_says : (Row → Bool) → Option Row → Bool
row_says says None = false
row_says says (Some r) = says r

-- Whether it has an observer, as its row says.
abbrev pub is_observed_in : Rows → Process → Bool
is_observed_in x p = row_says (λ r. r.is_observed) (row_in x p)

-- The observer on ring k that a row names.
abbrev pub observer_by : List Process → ℕ → Row → Option Process
observer_by names k r = option_and_then (slice_get names) (get_or r.observers k None)

-- ---- what the rows say together

-- The processes whose rows say so.
abbrev pub those_who : (Row → Bool) → List Process → List Row → List Process
those_who says [] rs = []
those_who says (p ∷ ps) [] = []
those_who says (p ∷ ps) (r ∷ rs) = if says r then p ∷ those_who says ps rs else those_who says ps rs

-- The edges of a process, whose observers from ring k on stand at these places.
abbrev pub edges_from : List Process → Process → ℕ → List (Option ℕ) → List (Report × Process)
edges_from names s k [] = []
edges_from names s k (o ∷ os) = cons_option (option_map (λ p. ((s, k), p)) (option_and_then (slice_get names) o)) (edges_from names s (suc k) os)

-- The edges of these processes, which have these rows.
abbrev pub edges_by : List Process → List Process → List Row → List (Report × Process)
edges_by names [] rs = []
edges_by names (s ∷ ss) [] = []
edges_by names (s ∷ ss) (r ∷ rs) = edges_from names s 0 r.observers ++ edges_by names ss rs

-- The joiners.
unfoldable pub joiners_of : Rows → ProcessSet
joiners_of x = set.from_list (those_who (λ r. r.is_joiner) x.names x.rows)

-- The edges.
unfoldable pub edges_of : Rows → TableEdges
edges_of x = finmap.from_entries (edges_by x.names x.names x.rows)

-- It is a member with an observer.
abbrev pub is_counted_in : Rows → Process → Bool
is_counted_in x p = is_observed_in x p && not (set.contains (joiners_of x) p)

-- It is a member without an observer.
abbrev pub is_unobserved_in : Rows → Process → Bool
is_unobserved_in x p = not (is_observed_in x p) && not (set.contains (joiners_of x) p)

-- The table that is kept so.
abbrev pub table_of : Params → Rows → Table
table_of params x = record { params = params; joiners = joiners_of x; edges = edges_of x }

-- ---- what holds of rows

-- A row has a cell for each ring, and the observers stand at the first n places.
abbrev pub AreCells : ℕ → Row → Type 0
AreCells n r = (length r.observers ≡ most_rings) × ((k o : ℕ) → get_or r.observers k None ≡ Some o → o < n)

-- Each process is named once and has a row. The observers are among those who are named.
pub record AreRows (x : Rows) : Type 0 where
  pub once : StandOnce x.names
  pub one_each : length x.rows ≡ length x.names
  pub cells : All (AreCells (length x.names)) x.rows

-- The same is said of all, and who is named keeps its place.
pub record SaySame (x y : Rows) : Type 0 where
  pub joiners : joiners_of y ≡ joiners_of x
  pub edges : edges_of y ≡ edges_of x
  pub observed : (p : Process) → is_observed_in y p ≡ is_observed_in x p
  pub places : (p : Process) (i : ℕ) → place_in x p ≡ Some i → place_in y p ≡ Some i

-- The same is said of all, but that p is a joiner.
pub record AddsJoiner (x y : Rows) (p : Process) : Type 0 where
  pub joiners : joiners_of y ≡ set.insert (joiners_of x) p
  pub edges : edges_of y ≡ edges_of x
  pub observed : (q : Process) → is_observed_in y q ≡ is_observed_in x q

-- The same is said of all, but that o observes s on ring k.
pub record AddsEdge (x y : Rows) (k : ℕ) (o s : Process) : Type 0 where
  pub joiners : joiners_of y ≡ joiners_of x
  pub edges : edges_of y ≡ finmap.insert (edges_of x) (s, k) o
  pub observed : (q : Process) → is_observed_in y q ≡ (same_bytes q s || is_observed_in x q)

-- What holds of a table of the program: the rules of tables. Rows say who is observed, and this many members are.
pub record Holds (params : Params) (x : Rows) (observed : ℕ) : Type 0 where
  pub rules : IsTable (table_of params x)
  pub subjects : (p : Process) → set.contains (table_subjects (edges_of x)) p ≡ is_observed_in x p
  pub count : observed ≡ set.len (observed_members (table_of params x))
