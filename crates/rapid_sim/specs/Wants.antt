-- Clauses of public calls cite this file.
-- What `sim` may print if memory can run out: in a step of a node, which halts it, or in the world, which refuses an
-- event. Each relation says from which state, what is printed, to which state that leads, and how often memory ran out.
-- If it never did, what is printed is what the definitions of `sim` print.
use Rattle.std.specs.Prelude.{◌≡◌, ℕ, zero, suc, ◌+◌, Bool, true, false, ◌⊎◌, List, [], ◌∷◌, ◌++◌, codes, replicate, Option, Some, None}
use Rattle.rapid_model.specs.World as world
use Rattle.rapid_model.specs.World.{WorldEvent}
use Rattle.rapid_model.specs.Refusal.{WorldRefusal}
use Rattle.rapid_model.specs.Run.{WorldReport}
use Rattle.rapid_model.specs.StoredWorld.{StoredWorld, StoresEvent, wants_of}
use Rattle.rapid_model.specs.Lines.{line_feed, lines}
use Rattle.rapid_model.specs.SimLine.{SimLine, Parameters, Found, Events, WrongTags, Lose, Deliver, Drop, Flow, Packets}
use Rattle.rapid_model.specs.Limits.{most_in_flow}
use Rattle.rapid_model.specs.SimText.{Simulation, SimState, Blank, Underway, ByWorld, Asked, Command, asked, after, printed, world_in, refused, refusal_line, reports_text, settling, losing, least_unsettled, can_reach}

-- ---- one event

-- Nothing is printed, and nothing more happens.
pub record IsSilent (s : Simulation) (text : List ℕ) (t : Simulation) (wants : ℕ) : Type 0 where
  pub says : text ≡ []
  pub stays : t ≡ s
  pub none : wants ≡ 0

-- The world refuses the event, which prints why.
pub record IsRefused (s : Simulation) (e : WorldEvent) (text : List ℕ) (t : Simulation) (wants : ℕ) : Type 0 where
  pub reason : WorldRefusal
  pub is : refused s e ≡ Some reason
  pub says : text ≡ refusal_line (ByWorld reason)
  pub stays : t ≡ s
  pub none : wants ≡ 0

-- The line that an event prints for which the world has no memory.
abbrev pub no_memory_line : List ℕ
no_memory_line = codes "refused OutOfMemory" ++ line_feed ∷ []

-- The world has no memory for the event, which it would not refuse.
pub record LacksMemory (s : Simulation) (e : WorldEvent) (text : List ℕ) (t : Simulation) (wants : ℕ) : Type 0 where
  pub allowed : refused s e ≡ None
  pub says : text ≡ no_memory_line
  pub stays : t ≡ s
  pub once : wants ≡ 1

-- The world accepts the event, which prints its reports; then it goes on.
pub record IsTaken (s : Simulation) (e : WorldEvent) (text : List ℕ) (wants : ℕ) (goes_on : Simulation → List ℕ → ℕ → Type 0) : Type 0 where
  pub next : StoredWorld
  pub reports : List WorldReport
  pub stores : StoresEvent s.world next e reports
  pub rest : List ℕ
  pub later : ℕ
  pub says : text ≡ reports_text reports ++ rest
  pub counts : wants ≡ wants_of stores.halts + later
  pub after : goes_on (record s { world = next }) rest later

-- What an event may print, and then what follows it, if it is accepted.
abbrev pub EventPrints : Simulation → WorldEvent → List ℕ → Simulation → ℕ → (Simulation → List ℕ → ℕ → Type 0) → Type 0
EventPrints s e text t wants goes_on = IsRefused s e text t wants ⊎ LacksMemory s e text t wants ⊎ IsTaken s e text wants goes_on

-- ---- lines

-- What events may print in turn: they stop at the first that is refused.
unfoldable pub EventsPrint : Simulation → List WorldEvent → List ℕ → Simulation → ℕ → Type 0
EventsPrint s [] text t wants = IsSilent s text t wants
EventsPrint s (e ∷ es) text t wants = EventPrints s e text t wants (λ next rest later. EventsPrint next es rest t later)

-- What a packet's delivery may print; if it is accepted, the packet is settled.
abbrev pub DeliveryPrints : Simulation → ℕ → List ℕ → Simulation → ℕ → Type 0
DeliveryPrints s k text t wants = EventPrints s (world.Deliver k) text t wants (λ next rest later. IsSilent (settling next k) rest t later)

-- The first if the test holds, else the second.
abbrev pub IfHolds : Bool → Type 0 → Type 0 → Type 0
IfHolds true p q = p
IfHolds false p q = q

-- What the next packet of a flow, if there is one, may print, and all that follow it.
abbrev pub NextPrints : Simulation → Option ℕ → List ℕ → Simulation → ℕ → (Simulation → List ℕ → ℕ → Type 0) → Type 0
NextPrints s None text t wants flow = IsSilent s text t wants
NextPrints s (Some k) text t wants flow =
    IfHolds (can_reach s k) (EventPrints s (world.Deliver k) text t wants (λ next rest later. flow (settling next k) rest later)) (flow (settling s k) text wants)

-- What a flow of at most this many packets may print.
unfoldable pub FlowPrints : ℕ → Simulation → List ℕ → Simulation → ℕ → Type 0
FlowPrints zero s text t wants = IsSilent s text t wants
FlowPrints (suc n) s text t wants = NextPrints s (least_unsettled s) text t wants (λ next rest later. FlowPrints n next rest t later)

-- What a command may print that makes events; no other is meant.
abbrev pub CommandPrints : Simulation → SimLine → List ℕ → Simulation → ℕ → Type 0
CommandPrints s (Events e n) text t wants = EventsPrint s (replicate n e) text t wants
CommandPrints s (Lose id) text t wants = EventsPrint s (losing (world_in s) id) text t wants
CommandPrints s (Deliver k) text t wants = DeliveryPrints s k text t wants
CommandPrints s Flow text t wants = FlowPrints most_in_flow s text t wants
CommandPrints s (Parameters params) text t wants = ⊥
CommandPrints s (Found founders) text t wants = ⊥
CommandPrints s (WrongTags r) text t wants = ⊥
CommandPrints s (Drop k) text t wants = ⊥
CommandPrints s Packets text t wants = ⊥

-- What a line prints is what the definitions print, and memory never ran out.
pub record PrintsExactly (s : SimState) (a : Asked) (text : List ℕ) (t : SimState) (wants : ℕ) : Type 0 where
  pub says : text ≡ printed s a
  pub goes_to : t ≡ after s a
  pub none : wants ≡ 0

-- A line makes events in a run.
pub record PrintsEvents (s : SimState) (a : Asked) (text : List ℕ) (t : SimState) (wants : ℕ) : Type 0 where
  pub old : Simulation
  pub new : Simulation
  pub command : SimLine
  pub from : s ≡ Underway old
  pub asks : a ≡ Command command
  pub to : t ≡ Underway new
  pub prints : CommandPrints old command text new wants

-- What a line may print.
abbrev pub LinePrints : SimState → Asked → List ℕ → SimState → ℕ → Type 0
LinePrints s a text t wants = PrintsExactly s a text t wants ⊎ PrintsEvents s a text t wants

-- What a line may print, and then what follows it.
pub record ThenPrints (s : SimState) (a : Asked) (text : List ℕ) (wants : ℕ) (goes_on : SimState → List ℕ → ℕ → Type 0) : Type 0 where
  pub next : SimState
  pub said : List ℕ
  pub rest : List ℕ
  pub first : ℕ
  pub later : ℕ
  pub says : text ≡ said ++ rest
  pub counts : wants ≡ first + later
  pub prints : LinePrints s a said next first
  pub after : goes_on next rest later

-- What these lines may print, from a state on.
unfoldable pub LinesPrint : SimState → List (List ℕ) → List ℕ → ℕ → Type 0
LinesPrint s [] text wants = (text ≡ []) × (wants ≡ 0)
LinesPrint s (line ∷ ls) text wants = ThenPrints s (asked line) text wants (λ next rest later. LinesPrint next ls rest later)

-- What `sim` may print for an input, if memory runs out this often.
abbrev pub SimPrints : List ℕ → List ℕ → ℕ → Type 0
SimPrints input text wants = LinesPrint Blank (lines input) text wants
