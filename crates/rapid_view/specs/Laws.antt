-- Clauses of public calls cite this file.
-- What is proved of the rule that a view cell keeps.
use Rattle.std.specs.Prelude.{◌≡◌, ℕ, List, length, map, slice_index}
use mathlib.Core.Option.{some}
use lib.ListN.{get_elem?}
use Rattle.atomic_table.specs.Table.{State}
use Rattle.rapid_model.specs.Configuration.{Stamp}
use Rattle.rapid_model.specs.PublishedList.{IsPublished}
use Rattle.rapid_view.specs.declared.cell_rule.CellKnowledge.{CellKnowledge}
use Rattle.rapid_view.specs.CellRule.{Kept}

-- Whenever the rule holds there is a list that is published. Word 0 of the cell is its length, and its heights rise by
-- one. Each seat, also the writer's, has seen a beginning of it.
abbrev pub CellsArePublished : Type 0
CellsArePublished =
    (room : ℕ) (s : State (Unit {0}) CellKnowledge) (seat : ℕ) (v : CellKnowledge) →
    Kept room s → get_elem? s.views seat ≡ some v →
    (list : List Stamp) × (slice_index s.words 0 ≡ length list) × IsPublished list v.seen (map (λ (u : CellKnowledge). u.seen) s.views)
