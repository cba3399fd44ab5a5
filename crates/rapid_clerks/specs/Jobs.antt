-- Clauses of public calls cite this file.
-- Jobs that were handed in, or done, in order.
use Rattle.std.specs.Prelude.{ℕ, Option, None, Some, List, [], ◌∷◌, ◌++◌}
use Rattle.rapid_model.specs.Run.{WorldReport}
use Rattle.rapid_world.specs.declared.error.WorldError.{WorldError}
use Rattle.rapid_world.specs.declared.error.WorldError.TheVariants.{IdentifierUsed, EndpointBusy, NoSuchNode, NoSuchPacket, NotObserved, EventsFull, OutOfMemory}
use Rattle.rapid_clerks.specs.Clusters.{ClusterState, DoesJob}
use Rattle.rapid_clerks.specs.declared.job.Job.{Job}

-- These jobs were done one after another, none was refused, and they brought one cluster to another.
pub data DoesJobs : ClusterState → List Job → ClusterState → Type 0 where
  none : (c : ClusterState) → DoesJobs c [] c
  one_more : (c d e : ClusterState) (js : List Job) (j : Job) (reports : List WorldReport) → DoesJobs c js d → DoesJob j d e reports → DoesJobs c (js ++ j ∷ []) e

-- These jobs were handed in one after another, each with a share of the amount that the one before it had left.
pub data HandedIn {J : Type 0} (handed : ℕ → J → ℕ → Type 0) (from : ℕ) : List J → ℕ → Type 0 where
  no_job : HandedIn handed from [] from
  one_job : (js : List J) (j : J) (before after : ℕ) → HandedIn handed from js before → handed before j after → HandedIn handed from (js ++ j ∷ []) after

-- A clerk goes on after a job that was done, and after one that was refused by an error, unless that says that no later
-- one can be done.
abbrev pub GoesOn : Option WorldError → Type 0
GoesOn None = Unit {0}
GoesOn (Some IdentifierUsed) = Unit {0}
GoesOn (Some EndpointBusy) = Unit {0}
GoesOn (Some NoSuchNode) = Unit {0}
GoesOn (Some NoSuchPacket) = Unit {0}
GoesOn (Some NotObserved) = Unit {0}
GoesOn (Some EventsFull) = ⊥
GoesOn (Some OutOfMemory) = ⊥

-- The job was handed in and answered, and a clerk goes on after this answer.
pub record IsPast {J : Type 0} (answered : J → Option WorldError → Type 0) (j : J) : Type 0 where
  pub refusal : Option WorldError
  pub told : answered j refusal
  pub goes_on : GoesOn refusal
