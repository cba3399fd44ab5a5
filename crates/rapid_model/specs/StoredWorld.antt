-- A world as it is kept: how it was founded, and the events that it accepted.
use Rattle.std.specs.Prelude.{◌≡◌, ℕ, suc, ◌+◌, ◌-◌, Bool, true, false, List, [], ◌∷◌, ◌++◌, length, slice_get, IsTrue, is_some, if◌then◌else◌, Option, Some, None}
use Rattle.std.specs.List.{list_any}
use Rattle.rapid_model.specs.Configuration.{Configuration}
use Rattle.rapid_model.specs.World.{World, WorldEvent, MarkedEvent}
use Rattle.rapid_model.specs.Refusal.{WorldRefusal, refusal_after}
use Rattle.rapid_model.specs.Run.{WorldReport, ReportInstalled, ReportHalted, run, founded, step_reports}

-- What a world stores.
pub record StoredWorld : Type 0 where
  pub founding : Configuration
  -- all events that it accepted, in order, each with its mark
  pub events : List MarkedEvent

-- A world that was founded, and no more.
abbrev pub new_world : Configuration → StoredWorld
new_world c = record { founding = c; events = [] }

-- The world is the run of its events.
unfoldable pub world_of : StoredWorld → World
world_of s = run s.events (founded s.founding)

-- How many events were accepted.
abbrev pub accepted : StoredWorld → ℕ
accepted s = length s.events

-- Why an event is refused, if it is.
unfoldable pub event_refusal : StoredWorld → WorldEvent → Option WorldRefusal
event_refusal s e = refusal_after (accepted s) (world_of s) e

-- The world with an event more.
abbrev pub with_event : StoredWorld → MarkedEvent → StoredWorld
with_event s m = record s { events = s.events ++ m ∷ [] }

-- An event without a mark.
abbrev pub unmarked : WorldEvent → MarkedEvent
unmarked e = record { event = e; halts = false }

-- The report says that a node halted.
abbrev pub is_halt : WorldReport → Bool
is_halt (ReportInstalled id c) = false
is_halt (ReportHalted id) = true

-- An event was accepted: it stands behind the others with its mark, and these are the reports of its step. It is marked
-- only if its node halts in the step and would not halt without the mark. So the mark says out of memory, and not that
-- a history is full.
pub record StoresEvent (old new : StoredWorld) (e : WorldEvent) (reports : List WorldReport) : Type 0 where
  pub halts : Bool
  pub not_refused : event_refusal old e ≡ None
  pub stored : new ≡ with_event old (record { event = e; halts = halts })
  pub reported : reports ≡ step_reports (world_of old) (record { event = e; halts = halts })
  pub marked : IsTrue halts → IsTrue (list_any is_halt reports)
  pub needed : IsTrue halts → list_any is_halt (step_reports (world_of old) (unmarked e)) ≡ false

-- How often an event that was accepted with this mark met out of memory: once if its node halted for it.
abbrev pub wants_of : Bool → ℕ
wants_of true = 1
wants_of false = 0

-- Events lead from one world to another. The two numbers are how many were accepted, and how often memory ran out. Each
-- event is accepted with some mark, or is refused and skipped, or the world itself is out of memory and skips an event
-- that it would not refuse.
pub data RunsTo : StoredWorld → List WorldEvent → ℕ → ℕ → StoredWorld → Type 0 where
  ends : (s : StoredWorld) → RunsTo s [] 0 0 s
  accepts : (s next t : StoredWorld) (e : WorldEvent) (reports : List WorldReport) (es : List WorldEvent) (n wanted : ℕ) (stores : StoresEvent s next e reports) →
      RunsTo next es n wanted t → RunsTo s (e ∷ es) (suc n) (wants_of stores.halts + wanted) t
  refuses : (s t : StoredWorld) (e : WorldEvent) (r : WorldRefusal) (es : List WorldEvent) (n wanted : ℕ) → event_refusal s e ≡ Some r →
      RunsTo s es n wanted t → RunsTo s (e ∷ es) n wanted t
  lacks_memory : (s t : StoredWorld) (e : WorldEvent) (es : List WorldEvent) (n wanted : ℕ) → event_refusal s e ≡ None →
      RunsTo s es n wanted t → RunsTo s (e ∷ es) n (suc wanted) t

-- The world after an event for which there is memory: it is stored without a mark, unless it is refused.
abbrev pub stepped_by : StoredWorld → WorldEvent → StoredWorld
stepped_by s e = if is_some (event_refusal s e) then s else with_event s (unmarked e)

-- The world after these events in order, for all of which there is memory.
abbrev pub run_by : StoredWorld → List WorldEvent → StoredWorld
run_by s [] = s
run_by s (e ∷ es) = run_by (stepped_by s e) es

-- The mark of an event, if there is one.
abbrev pub mark_of : Option MarkedEvent → Bool
mark_of None = false
mark_of (Some m) = m.halts

-- The mark of the last event.
unfoldable pub last_mark : List MarkedEvent → Bool
last_mark es = mark_of (slice_get es (length es - 1))
