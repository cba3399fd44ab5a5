use Rattle.std.proofs.Common.{◌≡◌, Some, sym, ap, subst}
use Rattle.std.specs.Prelude.{IfSome, All}
use Rattle.atomic_table.specs.Seated.{TableId}
use Rattle.rapid_desk.specs.Desks.{BoardValue}
use Rattle.rapid_desk.proofs.Seats.{one_cell}
use Rattle.rapid_desk.proofs.board.Board.take_seats.Goals as goal

pub returns-clause-one_cell : goal.returns-clause-one_cell
returns-clause-one_cell g c =
    subst (λ r. IfSome r (λ all. (cell : TableId) × (c.args.self.now.cell ≡ Some cell) × All (λ s. s.cell ≡ cell) all.items)) (sym c.take.ensures.value)
    (one_cell (λ v. v.items) _ c.self.inside.writer c.self.inside.seats c.args.self.now.cell (ap (λ (b : BoardValue). b.cell) c.self.view_is) c.self.invariant.3)
