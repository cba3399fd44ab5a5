-- Clauses of public calls cite this file.
-- The two ends of a sender's queue.
use Rattle.std.specs.Prelude.{◌≡◌, ℕ, List, []}
use Rattle.atomic_table.specs.Seated.{TableId}

-- A frame, and the bytes of the endpoint that it goes to.
abbrev pub Frame : Type 0
Frame = List ℕ × List ℕ

-- What was put into the queue, what of it is known to be taken, for how many frames there is room, and how many found
-- it full.
pub record Putting : Type 0 where
  pub queue : TableId
  pub put : List Frame
  pub known : List Frame
  pub room : ℕ
  pub full : ℕ

-- What was taken from the queue, what is known to be put in it, and how many of the frames taken were lost.
pub record Taking : Type 0 where
  pub queue : TableId
  pub taken : List Frame
  pub known : List Frame
  pub failed : ℕ

-- Nothing was taken by this end, and nothing was lost.
abbrev pub IsUnused : Taking → Type 0
IsUnused end = (end.taken ≡ []) × (end.failed ≡ 0)
