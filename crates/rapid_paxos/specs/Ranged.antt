-- What is true of each ballot.
use Rattle.std.specs.Prelude.{◌≡◌, ◌≤◌, ◌<◌}
use Rattle.rapid_model.specs.Ballot.{Ballot}
use Rattle.rapid_model.specs.Limits.{most_members, most_rounds}

-- The ballot is the fast one or a classic one.
pub record IsRanged (b : Ballot) : Type 0 where
  pub from : 1 ≤ b.round
  pub to : b.round ≤ most_rounds
  pub position : b.position < most_members
  pub fast : b.round ≡ 1 → b.position ≡ 0
