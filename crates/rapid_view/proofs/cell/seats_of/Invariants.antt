use Rattle.std.proofs.Common.{◌≡◌, vec_len}
use Rattle.std.specs.Prelude.{All}
use Rattle.rapid_view.proofs.cell.seats_of.Given as goal

abbrev pub invariant-loop : goal.invariant-loop
invariant-loop l = (l.writer ≡ l.fn.writer) × (vec_len l.all ≡ l.counter) × All (λ s. (s.cell ≡ l.fn.writer.cell) × (s.seen ≡ l.fn.writer.seen) × (s.kept ≡ l.view)) l.all.items
