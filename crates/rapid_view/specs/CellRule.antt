-- Clauses of public calls cite this file.
-- The rule of a view cell. Word 0 is how many stamps are published, and behind it each stamp has a place of six words.
use Rattle.std.specs.Prelude.{◌≡◌, ℕ, ◌+◌, ◌*◌, ◌<◌, ◌≤◌, List, [], ◌∷◌, ◌++◌, length, slice_index, true, false}
use mathlib.Core.Option.{some}
use lib.ListN.{get_elem?}
use Rattle.atomic_table.specs.Table.{State, Me, Step}
use Rattle.rapid_model.specs.Configuration.{Stamp}
use Rattle.rapid_model.specs.PublishedList.{HeightsRise, IsBeginning, stamp_words}
use Rattle.rapid_view.specs.declared.cell_rule.CellKnowledge.{CellKnowledge}
use Rattle.rapid_view.specs.Words.{stamp_of, IsWhole}

-- The first word of the place of stamp number i.
abbrev pub place : ℕ → ℕ
place i = 1 + 6 * i

-- The words of each stamp stand at its place.
abbrev pub Stands : List ℕ → List Stamp → Type 0
Stands words list = (i : ℕ) (s : Stamp) → get_elem? list i ≡ some s → IsWhole s × ((j : ℕ) → j < 6 → slice_index words (place i + j) ≡ slice_index (stamp_words s) j)

-- These words stand in place number n so far.
abbrev pub Waits : List ℕ → ℕ → List ℕ → Type 0
Waits words n pending = (j : ℕ) → j < length pending → slice_index words (place n + j) ≡ slice_index pending j

-- What the rule says of one seat.
pub record Fits (room : ℕ) (words : List ℕ) (list : List Stamp) (seat : ℕ) (v : CellKnowledge) : Type 0 where
  pub seen : IsBeginning v.seen list
  pub told : IsBeginning v.told list
  pub rising : HeightsRise v.seen
  pub room_is : 0 < v.room → v.room ≡ room
  -- only one seat writes; it has seen all
  pub writer : v.writes ≡ true → (seat ≡ 0) × (v.seen ≡ list) × Waits words (length list) v.pending

-- There is a list of stamps whose heights rise by one. The count is its length, its stamps stand at their places, each
-- seat has seen a beginning of it, and the writer all of it.
pub record Kept (room : ℕ) (s : State (Unit {0}) CellKnowledge) : Type 0 where
  pub list : List Stamp
  pub size : length s.words ≡ place room
  pub count : slice_index s.words 0 ≡ length list
  pub within : length list ≤ room
  pub stands : Stands s.words list
  pub rises : HeightsRise list
  pub each_seat : (seat : ℕ) (v : CellKnowledge) → get_elem? s.views seat ≡ some v → Fits room s.words list seat v

-- The writer, with the words that it has stored of the next stamp.
abbrev pub writing : ℕ → List Stamp → List ℕ → CellKnowledge
writing room seen pending = record { writes = true; room = room; seen = seen; told = []; pending = pending }

-- The writer of an empty list with room for this many stamps.
abbrev pub newcomer : ℕ → CellKnowledge
newcomer room = writing room [] []

-- A seat that is spent.
abbrev pub nobody : CellKnowledge
nobody = record { writes = false; room = 0; seen = []; told = []; pending = [] }

-- A seat that has seen as much, and does not write.
abbrev pub onlooker : CellKnowledge → CellKnowledge
onlooker v = record { writes = false; room = v.room; seen = v.seen; told = []; pending = [] }

-- A seat that was told what another has seen.
abbrev pub informed : CellKnowledge → CellKnowledge → CellKnowledge
informed v w = record { writes = v.writes; room = v.room; seen = v.seen; told = w.seen; pending = v.pending }

abbrev Holder : Type 0
Holder = Me (Unit {0}) CellKnowledge

-- A load of the count: it is the length of the list that is seen from then on, which begins with all that was seen and
-- told.
abbrev pub Looked : Step (Unit {0}) → Holder → ℕ → Holder → Type 0
Looked st v n w =
    (w.1 ≡ v.1) × (w.0 ≡ record { writes = v.0.writes; room = v.0.room; seen = w.0.seen; told = []; pending = v.0.pending })
    × IsBeginning v.0.seen w.0.seen × IsBeginning v.0.told w.0.seen × (n ≡ length w.0.seen) × (n ≤ v.0.room)
    × ((i : ℕ) (s : Stamp) → get_elem? w.0.seen i ≡ some s → IsWhole s) × HeightsRise w.0.seen

-- A load of the count by the writer: what it was told is a beginning of what it has published.
abbrev pub Compared : Step (Unit {0}) → Holder → ℕ → Holder → Type 0
Compared st v n w = (w ≡ (record { writes = v.0.writes; room = v.0.room; seen = v.0.seen; told = []; pending = v.0.pending }, v.1)) × IsBeginning v.0.told v.0.seen

-- A load of a word: it is that of the stamp which was seen there.
abbrev pub Read : Step (Unit {0}) → Holder → ℕ → Holder → Type 0
Read st v n w = (w ≡ v) × ((i j : ℕ) (s : Stamp) → get_elem? v.0.seen i ≡ some s → st.word ≡ place i + j → j < 6 → n ≡ slice_index (stamp_words s) j)

-- A store into the next place, of one word more of the next stamp.
abbrev pub Stored : Step (Unit {0}) → Holder → ℕ → Holder → Type 0
Stored st v n w = w ≡ (record { writes = v.0.writes; room = v.0.room; seen = v.0.seen; told = v.0.told; pending = v.0.pending ++ st.first ∷ [] }, v.1)

-- A store of the count: the list is longer by the stamp that was stored.
abbrev pub Lengthened : Step (Unit {0}) → Holder → ℕ → Holder → Type 0
Lengthened st v n w = w ≡ (record { writes = v.0.writes; room = v.0.room; seen = v.0.seen ++ stamp_of v.0.pending ∷ []; told = v.0.told; pending = [] }, v.1)
