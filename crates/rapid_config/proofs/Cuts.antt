-- What makes a list a cut.
use Rattle.std.proofs.Common.{◌≡◌, ◌≤◌, true, length}
use Rattle.std.specs.Prelude.{All}
use Rattle.rapid_model.specs.Process.{IsProcess}
use Rattle.rapid_model.specs.Cut.{Cut, IsCut, is_ascending}

pub is_cut : (v : Cut) → 1 ≤ length v → length v ≤ 1536 → All IsProcess v → is_ascending v ≡ true → IsCut v
is_cut v some few processes ascending = record { some = some; few = few; processes = processes; ascending = ascending }
