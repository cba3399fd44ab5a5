-- What is true of each coordinator.
use Rattle.std.specs.Prelude.{◌≤◌, ◌<◌}
use Rattle.std.specs.FinSet as set
use Rattle.rapid_model.specs.Cut.{Cut}
use Rattle.rapid_model.specs.FastRound.{count_of}
use Rattle.rapid_model.specs.Coordinator.{Coordinator, last_round}
use Rattle.rapid_model.specs.Limits.{most_members, most_rounds}

-- The coordinator is one of at most 1,024 members, and no cut was reported by more than have promised.
pub record IsCoordinator (c : Coordinator) : Type 0 where
  pub member : c.position < c.size
  pub few : c.size ≤ most_members
  pub counted : (v : Cut) → count_of c.counts v ≤ set.len c.heard
  pub last : last_round c.ballot ≤ most_rounds
