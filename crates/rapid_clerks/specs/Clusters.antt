-- Clauses of public calls cite this file.
-- A cluster that clerks drive: what it keeps, and what a job does to it.
use Rattle.std.specs.Prelude.{◌≡◌, ℕ, List, nat_lt, if◌then◌else◌, Option, Some, None, refl}
use Rattle.std.specs.Coded.{Coded, code_by, coded×, coded_ℕ, coded_option}
use Rattle.rapid_model.specs.Codes.{bytes_code}
use Rattle.rapid_model.specs.Configuration.{Params, founding}
use Rattle.rapid_model.specs.Limits.{most_events}
use Rattle.rapid_model.specs.Process.{Process}
use Rattle.rapid_model.specs.Refusal as refusal
use Rattle.rapid_model.specs.Refusal.{WorldRefusal}
use Rattle.rapid_model.specs.Run.{WorldReport}
use Rattle.rapid_model.specs.StoredWorld.{StoredWorld, StoresEvent, new_world, world_of, accepted, event_refusal}
use Rattle.rapid_model.specs.Turn.{TurnPointer, Turn, first_turn, next_turn}
use Rattle.rapid_world.specs.Codes.{stored_code}
use Rattle.rapid_world.specs.Events.{event_of, Refuses}
use Rattle.rapid_world.specs.declared.error.WorldError.{WorldError}
use Rattle.rapid_clerks.specs.declared.job.Job.{Job}
use Rattle.rapid_clerks.specs.declared.job.Job.TheVariants as job

-- A world, and what turns remember.
pub record ClusterState : Type 0 where
  pub world : StoredWorld
  pub pointer : TurnPointer

-- A cluster of these founders, in which nothing happened yet.
abbrev pub new_cluster : Params → List Process → ClusterState
new_cluster params founders = record { world = new_world (founding params founders); pointer = first_turn }

-- The event of a job, and what turns remember after it. A turn has none if no node runs.
abbrev pub job_turn : Job → ClusterState → Option Turn
job_turn (job.Event e) c = Some (record { event = event_of e; pointer = c.pointer })
job_turn job.Turn c = next_turn (world_of c.world) c.pointer

-- A job was done: its event is stored behind the others, and these are the reports of its step.
pub record DoesJob (j : Job) (old new : ClusterState) (reports : List WorldReport) : Type 0 where
  pub turn : Turn
  pub asked : job_turn j old ≡ Some turn
  pub stores : StoresEvent old.world new.world turn.event reports
  pub pointer : new.pointer ≡ turn.pointer

-- Why a turn is refused, if its event is this one.
abbrev pub refusal_of_turn : StoredWorld → Option Turn → Option WorldRefusal
refusal_of_turn s None = Some refusal.NoSuchNode
refusal_of_turn s (Some t) = event_refusal s t.event

-- Why a turn is refused, if it is. That no further event is accepted comes first.
abbrev pub turn_refusal : ClusterState → Option WorldRefusal
turn_refusal c =
    if nat_lt (accepted c.world) most_events then refusal_of_turn c.world (next_turn (world_of c.world) c.pointer) else Some refusal.EventsFull

-- The error says exactly why a job is refused.
abbrev pub RefusesJob : Job → ClusterState → WorldError → Type 0
RefusesJob (job.Event e) c error = Refuses (event_refusal c.world (event_of e)) error
RefusesJob job.Turn c error = Refuses (turn_refusal c) error

-- Clusters, as a proof tells them apart.
abbrev pub cluster_code : Coded ClusterState
cluster_code =
    code_by (StoredWorld × (ℕ × Option (List ℕ)))
    (coded× stored_code (coded× coded_ℕ (coded_option bytes_code)))
    (λ c. (c.world, (c.pointer.passed, c.pointer.ticked)))
    (λ x. record { world = x.0; pointer = record { passed = x.1.0; ticked = x.1.1 } })
    (λ _. refl)
