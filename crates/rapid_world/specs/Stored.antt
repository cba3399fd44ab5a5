-- What a world stores, in few bytes: nodes go by their places, and those who start stand in a list of their own.
use Rattle.std.specs.Prelude.{◌≡◌, ◌<◌, ℕ, Bool, true, false, List, [], ◌∷◌, ◌++◌, All, flat_map, get_or, length, map, Option, Some}
use Rattle.std.specs.Option.{option_map}
use Rattle.rapid_model.specs.Process.{Process, identifier}
use Rattle.rapid_model.specs.StoredWorld.{StoredWorld}
use Rattle.rapid_model.specs.World.{WorldEvent, Start, Probe, Tick, Deliver, Crash, Leave, MarkedEvent}
use Rattle.rapid_world.specs.declared.stored.Started.{Started}
use Rattle.rapid_world.specs.declared.stored.StoredEvent.{StoredEvent}
use Rattle.rapid_world.specs.declared.stored.StoredEvent.TheVariants as stored

-- What a world stores, and for how many further events and starts it has the room.
pub record Store : Type 0 where
  pub world : StoredWorld
  pub room : ℕ
  pub start_room : ℕ

-- Who starts by an event, if anyone does.
abbrev pub starters_by : WorldEvent → List Process
starters_by (Start p seed) = p ∷ []
starters_by (Probe id k ok) = []
starters_by (Tick id) = []
starters_by (Deliver k) = []
starters_by (Crash id) = []
starters_by (Leave id) = []

-- All that ever started in a stored world, in order: the founders, then those who started.
abbrev pub started_in : StoredWorld → List Process
started_in s = s.founding.members ++ flat_map (λ m. starters_by m.event) s.events

-- All that ever started, of these founders and these starts.
abbrev pub who_of : List Process → List Started → List Process
who_of founders starts = founders ++ map (λ x. x.process) starts

-- The event is a start.
abbrev pub is_start : WorldEvent → Bool
is_start (Start p seed) = true
is_start (Probe id k ok) = false
is_start (Tick id) = false
is_start (Deliver k) = false
is_start (Crash id) = false
is_start (Leave id) = false

-- The event is no start, and if it names a node, it names this one.
abbrev pub Names : Option Process → WorldEvent → Type 0
Names p (Start q seed) = ⊥
Names p (Probe id k ok) = option_map identifier p ≡ Some id
Names p (Tick id) = option_map identifier p ≡ Some id
Names p (Deliver k) = Unit {0}
Names p (Crash id) = option_map identifier p ≡ Some id
Names p (Leave id) = option_map identifier p ≡ Some id

-- The identifier of the process at a place.
abbrev pub id_at : List Process → ℕ → List ℕ
id_at ps i = identifier (get_or ps i [])

-- A start.
abbrev pub start_of : Started → WorldEvent
start_of x = Start x.process x.seed

-- The start at a place.
abbrev pub start_at : List Started → ℕ → WorldEvent
start_at starts i = start_of (get_or starts i (record { process = []; seed = [] }))

-- An event that is stored so, with its mark.
abbrev pub marked_in : List Process → List Started → StoredEvent → MarkedEvent
marked_in founders starts (stored.Start halts i) = record { event = start_at starts i; halts = halts }
marked_in founders starts (stored.Probe halts ok k i) = record { event = Probe (id_at (who_of founders starts) i) k ok; halts = halts }
marked_in founders starts (stored.Tick halts i) = record { event = Tick (id_at (who_of founders starts) i); halts = halts }
marked_in founders starts (stored.Deliver halts k) = record { event = Deliver k; halts = halts }
marked_in founders starts (stored.Crash halts i) = record { event = Crash (id_at (who_of founders starts) i); halts = halts }
marked_in founders starts (stored.Leave halts i) = record { event = Leave (id_at (who_of founders starts) i); halts = halts }

-- The event's start, or its node, stands at its place.
abbrev pub IsWithin : List Process → List Started → StoredEvent → Type 0
IsWithin founders starts (stored.Start halts i) = i < length starts
IsWithin founders starts (stored.Probe halts ok k i) = i < length (who_of founders starts)
IsWithin founders starts (stored.Tick halts i) = i < length (who_of founders starts)
IsWithin founders starts (stored.Deliver halts k) = Unit {0}
IsWithin founders starts (stored.Crash halts i) = i < length (who_of founders starts)
IsWithin founders starts (stored.Leave halts i) = i < length (who_of founders starts)

-- What is stored so says this event, with this mark.
pub record Says (founders : List Process) (starts : List Started) (x : StoredEvent) (m : MarkedEvent) : Type 0 where
  pub within : IsWithin founders starts x
  pub says : marked_in founders starts x ≡ m

-- Each event stands at its place, and the starts are those of the events.
pub record AreStored (founders : List Process) (starts : List Started) (events : List StoredEvent) : Type 0 where
  pub within : All (IsWithin founders starts) events
  pub starters : flat_map (λ m. starters_by m.event) (map (marked_in founders starts) events) ≡ map (λ x. x.process) starts
