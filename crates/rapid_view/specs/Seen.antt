-- Clauses of public calls cite this file.
-- What the writer and the seats of a cell know.
use Rattle.std.specs.Prelude.{◌≡◌, ◌≢◌, ℕ, ◌+◌, ◌-◌, ◌<◌, List, [], ◌∷◌, ◌++◌, length, slice_get, Option, Some}
use Rattle.atomic_table.specs.Seated.{TableId}
use Rattle.rapid_model.specs.Configuration.{Configuration, Stamp, stamp}
use Rattle.rapid_model.specs.PublishedList.{IsBeginning}
use Rattle.rapid_view.specs.declared.error.ViewError.{ViewError}
use Rattle.rapid_view.specs.declared.error.ViewError.TheVariants.{NotNext, Behind, NoPlace, CellFull, OutOfMemory}

-- Which cell a reader of stamps reads, and the published list as far as it has seen it.
pub record Reading : Type 0 where
  pub cell : TableId
  pub seen : List Stamp

-- Which cell a seat reads, the published list as far as the seat has seen it, and the view that the seat keeps.
pub record Watched : Type 0 where
  pub cell : TableId
  pub seen : List Stamp
  pub kept : Configuration

-- Which cell the writer writes, for how many views it has room, and the list that is published.
pub record Written : Type 0 where
  pub cell : TableId
  pub room : ℕ
  pub seen : List Stamp

-- Which cell the writer writes, for how many views it has room, the list that is published, and the view that readers
-- find. There is no such view if even a copy that shares its members was refused.
pub record Publishing : Type 0 where
  pub cell : TableId
  pub room : ℕ
  pub seen : List Stamp
  pub shown : Option Configuration

-- The height of the last stamp, 0 if there is none.
abbrev pub last_height : List Stamp → ℕ
last_height [] = 0
last_height (s ∷ []) = s.height
last_height (s ∷ t ∷ stamps) = last_height (t ∷ stamps)

-- A stamp of this height may be published.
abbrev pub MayFollow : ℕ → List Stamp → ℕ → Type 0
MayFollow room seen height = (height ≡ last_height seen + 1) × (length seen < room)

-- Why a view of this height was not published in a cell with this much room.
abbrev pub Refused : ℕ → List Stamp → ℕ → ViewError → Type 0
Refused room seen height NotNext = height ≢ last_height seen + 1
Refused room seen height CellFull = (height ≡ last_height seen + 1) × (length seen ≡ room)
Refused room seen height OutOfMemory = MayFollow room seen height
Refused room seen height (Behind _) = ⊥
Refused room seen height NoPlace = ⊥

-- Why no view was found by a seat that has seen these stamps.
abbrev pub Missed : List Stamp → ViewError → Type 0
Missed seen (Behind s) = slice_get seen (length seen - 1) ≡ Some s
Missed seen OutOfMemory = Unit {0}
Missed seen NotNext = ⊥
Missed seen NoPlace = ⊥
Missed seen CellFull = ⊥

-- The stamp was seen: those that were seen begin with some that end in it.
abbrev pub WasSeen : List Stamp → Stamp → Type 0
WasSeen seen s = (before : List Stamp) × IsBeginning (before ++ s ∷ []) seen

-- The last stamp that was seen is not that of this view.
abbrev pub IsOutdated : List Stamp → Configuration → Type 0
IsOutdated seen view = slice_get seen (length seen - 1) ≢ Some (stamp view)

-- The number of an error.
abbrev pub code_of : ViewError → ℕ
code_of NotNext = 1
code_of (Behind _) = 2
code_of NoPlace = 3
code_of CellFull = 4
code_of OutOfMemory = 99
