-- The two sides of a join, each with what it stands for.
use Rattle.rapid_model.specs.Process.{Process, ProcessSet}
use Rattle.rapid_model.specs.Configuration.{Configuration}
use Rattle.rapid_model.specs.Joiner.{Joiner}

-- The side of the process that joins.
pub record JoinerSide : Type 0 where
  pub process : Process
  pub joiner : Joiner

-- The side of a member in its configuration.
pub record HostSide : Type 0 where
  pub config : Configuration
  pub me : Process
  -- the joiners that wait for an answer here
  pub pending : ProcessSet
