-- The list of a cell is published.
use Rattle.std.proofs.Common.{◌≡◌, ℕ, zero, suc, List, [], ◌∷◌, map, refl, arith}
use Rattle.std.specs.Prelude.{All}
use mathlib.Core.Option.{some}
use lib.ListN.{get_elem?}
use Rattle.rapid_model.specs.Configuration.{Stamp}
use Rattle.rapid_model.specs.PublishedList.{IsBeginning}
use Rattle.rapid_view.specs.declared.cell_rule.CellKnowledge.{CellKnowledge}
use Rattle.rapid_view.specs.Laws.{CellsArePublished}

all_seen : (list : List Stamp) (vs : List CellKnowledge) → ((seat : ℕ) (v : CellKnowledge) → get_elem? vs seat ≡ some v → IsBeginning v.seen list) → All (λ seen. IsBeginning seen list) (map (λ (u : CellKnowledge). u.seen) vs)
all_seen list [] h k d l = absurd (omega (arith, l))
all_seen list (v ∷ vs) h zero d l = h 0 v refl
all_seen list (v ∷ vs) h (suc k) d l = all_seen list vs (λ seat w e. h (suc seat) w e) k d (omega (arith, l))

pub cells_are_published : CellsArePublished
cells_are_published room s seat v kept at = (
  kept.list,
  kept.count,
  record {
    heights = kept.rises;
    by_writer = (kept.each_seat seat v at).seen;
    by_seats = all_seen kept.list s.views (λ i u e. (kept.each_seat i u e).seen);
  },
)
