-- How far a simulator has come with what it does.
use Rattle.std.specs.Prelude.{◌≡◌, ℕ, suc, ◌+◌, Bool, true, false, ◌⊎◌, List, ◌++◌}
use Rattle.rapid_model.specs.World.{WorldEvent}
use Rattle.rapid_model.specs.Refusal as faults
use Rattle.rapid_model.specs.Run.{WorldReport}
use Rattle.rapid_model.specs.StoredWorld.{StoredWorld, StoresEvent, wants_of}
use Rattle.rapid_model.specs.SimText.{Simulation, SimState, Asked, ByWorld, after, printed, reports_text, refusal_line}
use Rattle.rapid_sim.specs.Wants.{IsRefused, LacksMemory, LinePrints, FlowPrints, no_memory_line}
use Rattle.rapid_world.specs.declared.error.WorldError.{WorldError}
use Rattle.rapid_world.specs.declared.error.WorldError.TheVariants.{IdentifierUsed, EndpointBusy, NoSuchNode, NoSuchPacket, NotObserved, EventsFull, OutOfMemory}

-- ---- texts and counts

-- Some of what is to be done was done: whatever the rest prints stands behind what was said.
pub record GoesOn (all rest : List ℕ → Simulation → ℕ → Type 0) (before after : List ℕ) (met now : ℕ) : Type 0 where
  pub said : List ℕ
  pub wants : ℕ
  pub appended : after ≡ before ++ said
  pub counted : now ≡ met + wants
  pub goes_on : (text : List ℕ) (t : Simulation) (later : ℕ) → rest text t later → all (said ++ text) t (wants + later)

-- All was done.
pub record IsDone (all : List ℕ → Simulation → ℕ → Type 0) (new : Simulation) (before after : List ℕ) (met now : ℕ) : Type 0 where
  pub said : List ℕ
  pub wants : ℕ
  pub appended : after ≡ before ++ said
  pub counted : now ≡ met + wants
  pub prints : all said new wants

-- A line was answered.
pub record IsAnswered (old new : SimState) (asked : Asked) (before after : List ℕ) (met now : ℕ) : Type 0 where
  pub said : List ℕ
  pub wants : ℕ
  pub appended : after ≡ before ++ said
  pub counted : now ≡ met + wants
  pub prints : LinePrints old asked said new wants

-- A line was answered as the definitions say.
pub record IsAnsweredExactly (old new : SimState) (asked : Asked) (before output : List ℕ) : Type 0 where
  pub appended : output ≡ before ++ printed old asked
  pub goes_to : new ≡ after old asked

-- ---- one event

-- What a refused event prints.
abbrev pub error_text : WorldError → List ℕ
error_text IdentifierUsed = refusal_line (ByWorld faults.IdentifierUsed)
error_text EndpointBusy = refusal_line (ByWorld faults.EndpointBusy)
error_text NoSuchNode = refusal_line (ByWorld faults.NoSuchNode)
error_text NoSuchPacket = refusal_line (ByWorld faults.NoSuchPacket)
error_text NotObserved = refusal_line (ByWorld faults.NotObserved)
error_text EventsFull = refusal_line (ByWorld faults.EventsFull)
error_text OutOfMemory = no_memory_line

-- The event was accepted, and its reports were printed.
pub record WasTaken (old new : Simulation) (e : WorldEvent) (before after : List ℕ) (met now : ℕ) : Type 0 where
  pub reports : List WorldReport
  pub next : StoredWorld
  pub stores : StoresEvent old.world next e reports
  pub becomes : new ≡ record old { world = next }
  pub appended : after ≡ before ++ reports_text reports
  pub counted : now ≡ met + wants_of stores.halts

-- The event was refused, or there was no memory for it, and that was printed.
pub record WasStopped (old new : Simulation) (e : WorldEvent) (before after : List ℕ) (met now : ℕ) : Type 0 where
  pub said : List ℕ
  pub wants : ℕ
  pub appended : after ≡ before ++ said
  pub counted : now ≡ met + wants
  pub prints : IsRefused old e said new wants ⊎ LacksMemory old e said new wants

-- The event was accepted or not.
abbrev pub HasStepped : Simulation → Simulation → WorldEvent → List ℕ → List ℕ → ℕ → ℕ → Bool → Type 0
HasStepped old new e before after met now true = WasTaken old new e before after met now
HasStepped old new e before after met now false = WasStopped old new e before after met now

-- A packet of a flow was settled, or the flow has ended.
abbrev pub HasFlowed : Simulation → Simulation → List ℕ → List ℕ → ℕ → ℕ → Bool → Type 0
HasFlowed old new before after met now true = (n : ℕ) → GoesOn (FlowPrints (suc n) old) (FlowPrints n new) before after met now
HasFlowed old new before after met now false = (n : ℕ) → IsDone (FlowPrints (suc n) old) new before after met now
