-- Clauses of public calls cite this file.
-- The rule of a board: a word for each edge, which only the seat of its owner changes, and watchers that know edges
-- that are down.
use Rattle.std.specs.Prelude.{◌≡◌, ℕ, ◌<◌, ◌≤◌, List, [], ◌∷◌, ◌++◌, map, length, slice_index, Bool, true, false, ◌⊎◌, if◌then◌else◌, IsTrue}
use mathlib.Core.Option.{some}
use lib.ListN.{get_elem?}
use Rattle.atomic_table.specs.Table.{State, Me, Step}
use Rattle.rapid_model.specs.Edge.{fresh_edge, edge_after}
use Rattle.rapid_monitor.specs.declared.board_rule.BoardKnowledge.{BoardKnowledge}
use Rattle.rapid_monitor.specs.ProbeWord.{word_after, is_down_word, newest_ok}

-- An edge is among these.
abbrev pub IsIn : ℕ → List ℕ → Type 0
IsIn edge [] = ⊥
IsIn edge (e ∷ es) = (edge ≡ e) ⊎ IsIn edge es

-- Whether an edge that had these results, in order, is down.
abbrev pub is_down_after : List Bool → Bool
is_down_after oks = (edge_after fresh_edge oks).is_down

-- An edge that had these results, in order, is down.
abbrev pub IsDown : List Bool → Type 0
IsDown oks = IsTrue (is_down_after oks)

-- The rule for one seat, given the results of the edges. The owner of an edge knows its results, and an edge that a
-- seat knows to be down is down.
pub record Fits (edges : ℕ) (history : ℕ → List Bool) (v : BoardKnowledge) : Type 0 where
  pub owner : v.owns ≡ true → (v.results ≡ history v.edge) × (v.edge < edges)
  pub known : (edge : ℕ) → IsIn edge v.known → IsDown (history edge)

-- What a seat may do: make the seats of edges from one on, or store the word of an edge.
pub record Role : Type 0 where
  pub makes : Bool
  pub next : ℕ
  pub owns : Bool
  pub edge : ℕ

abbrev pub role_of : BoardKnowledge → Role
role_of v = record { makes = v.makes; next = v.next; owns = v.owns; edge = v.edge }

-- No edge has two owners. No two seats make owners, and of the edges from the next one on there is no owner and no
-- result yet.
pub record Roles (roles : List Role) (history : ℕ → List Bool) : Type 0 where
  pub one : (i j : ℕ) (r s : Role) → get_elem? roles i ≡ some r → get_elem? roles j ≡ some s → r.owns ≡ true → s.owns ≡ true → r.edge ≡ s.edge → i ≡ j
  pub one_maker : (i j : ℕ) (r s : Role) → get_elem? roles i ≡ some r → get_elem? roles j ≡ some s → r.makes ≡ true → s.makes ≡ true → i ≡ j
  pub below : (i j : ℕ) (r s : Role) → get_elem? roles i ≡ some r → get_elem? roles j ≡ some s → r.makes ≡ true → s.owns ≡ true → s.edge < r.next
  pub fresh : (i : ℕ) (r : Role) → get_elem? roles i ≡ some r → r.makes ≡ true → (edge : ℕ) → r.next ≤ edge → history edge ≡ []

-- Each edge has results, of which its word is made.
pub record Kept (edges : ℕ) (s : State (Unit {0}) BoardKnowledge) : Type 0 where
  pub history : ℕ → List Bool
  pub size : length s.words ≡ edges
  pub word : (edge : ℕ) → edge < edges → slice_index s.words edge ≡ word_after (history edge)
  pub each_seat : (seat : ℕ) (v : BoardKnowledge) → get_elem? s.views seat ≡ some v → Fits edges history v
  pub roles : Roles (map role_of s.views) history

-- The seat that makes the others, and next the owner of this edge.
abbrev pub maker_at : ℕ → BoardKnowledge
maker_at next = record { makes = true; next = next; owns = false; edge = 0; results = []; known = [] }

-- The owner of an edge that had these results, and what it knows to be down.
abbrev pub owner_of : ℕ → List Bool → List ℕ → BoardKnowledge
owner_of edge results known = record { makes = false; next = 0; owns = true; edge = edge; results = results; known = known }

-- A watcher that knows these edges to be down.
abbrev pub watcher : List ℕ → BoardKnowledge
watcher known = record { makes = false; next = 0; owns = false; edge = 0; results = []; known = known }

-- What an owner knows of its own edge.
abbrev pub own_known : BoardKnowledge → List ℕ
own_known v = if is_down_after v.results then v.edge ∷ [] else []

-- A seat that knows these edges to be down in place of those before.
abbrev pub with_known : BoardKnowledge → List ℕ → BoardKnowledge
with_known v known = record { makes = v.makes; next = v.next; owns = v.owns; edge = v.edge; results = v.results; known = known }

abbrev Holder : Type 0
Holder = Me (Unit {0}) BoardKnowledge

-- The owner's load: it finds the word of its results, and its edge is down if that is what it knows.
abbrev pub Found : Step (Unit {0}) → Holder → ℕ → Holder → Type 0
Found st v n w = (w ≡ v) × (n ≡ word_after v.0.results) × (IsIn v.0.edge v.0.known → IsDown v.0.results)

-- The owner's store: its edge has one more result, the newest of the word that it stores.
abbrev pub Stored : Step (Unit {0}) → Holder → ℕ → Holder → Type 0
Stored st v n w = w ≡ (owner_of v.0.edge (v.0.results ++ newest_ok st.first ∷ []) v.0.known, v.1)

-- Anyone's load: it knows the edge to be down if the word says so, and the word says so if it knew.
abbrev pub Looked : Step (Unit {0}) → Holder → ℕ → Holder → Type 0
Looked st v n w =
    (w ≡ (with_known v.0 (if is_down_word n then st.word ∷ v.0.known else v.0.known), v.1))
    × (IsIn st.word v.0.known → is_down_word n ≡ true)
