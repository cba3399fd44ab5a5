-- Clauses of public calls cite this file.
-- How a cluster comes to its end: it is founded, the other nodes are started, and turns are taken.
use Rattle.std.specs.Prelude.{◌≤◌, ℕ, ◌-◌, List, [], ◌∷◌, ◌++◌, map, replicate}
use Rattle.std.specs.List.{range_with_len}
use Rattle.rapid_model.specs.Configuration.{Params}
use Rattle.rapid_model.specs.Process.{endpoint}
use Rattle.rapid_model.specs.Numbered.{numbered}
use Rattle.rapid_world.specs.declared.event.WorldEvent.TheVariants.{Start}
use Rattle.rapid_clerks.specs.Clusters.{ClusterState, new_cluster}
use Rattle.rapid_clerks.specs.Jobs.{DoesJobs}
use Rattle.rapid_clerks.specs.declared.job.Job.{Job}
use Rattle.rapid_clerks.specs.declared.job.Job.TheVariants.{Event, Turn}

-- The job by which the process of a number starts, which asks process 1 to let it in.
abbrev pub start_of : ℕ → Job
start_of k = Event (Start (numbered k) (endpoint (numbered 1)))

-- The starts of this many processes, from process 2.
abbrev pub starts_of : ℕ → List Job
starts_of count = map start_of (range_with_len 2 count)

-- All jobs of a cluster of the nodes 1 to n that takes this many turns.
abbrev pub all_jobs : ℕ → ℕ → List Job
all_jobs n turns = starts_of (n - 1) ++ replicate turns Turn

-- A cluster of the nodes 1 to n has taken this many turns: process 1 founded it with these parameters, and each of
-- these jobs was done.
abbrev pub HasTaken : Params → ℕ → ℕ → ClusterState → Type 0
HasTaken params n turns c = DoesJobs (new_cluster params (numbered 1 ∷ [])) (all_jobs n turns) c

-- It has taken some turns.
abbrev pub IsUnderway : Params → ℕ → ClusterState → Type 0
IsUnderway params n c = (turns : ℕ) × HasTaken params n turns c

-- It has taken at most this many turns.
abbrev pub IsDriven : Params → ℕ → ℕ → ClusterState → Type 0
IsDriven params n most c = (turns : ℕ) × (turns ≤ most) × HasTaken params n turns c
