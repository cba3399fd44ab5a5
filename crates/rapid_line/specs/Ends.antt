-- Clauses of public calls cite this file.
-- What contracts see of the two ends of a queue.
use Rattle.std.specs.Prelude.{ℕ, List}
use Rattle.atomic_table.specs.Seated.{TableId}

-- The end that puts: the queue, what was put, what is known to be taken of that, and for how many items there is room.
pub record SinkState (T : Type 0) : Type 0 where
  pub queue : TableId
  pub put : List T
  pub known : List T
  pub room : ℕ

-- The end that takes: the queue, what was taken, what is known to be put, and for how many items there is room.
pub record SourceState (T : Type 0) : Type 0 where
  pub queue : TableId
  pub taken : List T
  pub known : List T
  pub room : ℕ
