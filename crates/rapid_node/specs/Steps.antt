-- Clauses of public calls cite this file.
-- Steps of nodes: their events, their outcomes and their faults.
use Rattle.std.specs.Prelude.{◌≡◌, ℕ, List, ◌++◌, true, false, Option, Some, None}
use Rattle.rapid_model.specs.Process.{Process}
use Rattle.rapid_model.specs.Node as model
use Rattle.rapid_model.specs.NodeStep.{node_step}
use Rattle.rapid_node.specs.declared.event.Event.{Event}
use Rattle.rapid_node.specs.declared.event.Event.TheVariants.{EdgeDown, Tick, Receive, Leave}
use Rattle.rapid_node.specs.declared.fault.NodeFault.{NodeFault}
use Rattle.rapid_node.specs.declared.fault.NodeFault.TheVariants.{Halted, OutOfMemory, HistoryFull}

-- An event.
abbrev pub event_of : Event → model.Event
event_of (EdgeDown id k p) = model.EdgeDown id k p
event_of Tick = model.Tick
event_of (Receive m) = model.Receive m
event_of Leave = model.Leave

-- The number of a fault.
abbrev pub fault_code : NodeFault → ℕ
fault_code Halted = 1
fault_code OutOfMemory = 2
fault_code HistoryFull = 3

-- The node as it is in this phase.
abbrev pub in_phase : model.Node → model.Phase → model.Node
in_phase n p = record n { phase = p }

-- There is an outcome: this node, and these outputs after those of before.
abbrev pub Continues : Process → Option model.Outcome → model.Node → List model.Output → List model.Output → Type 0
Continues me None new before after = ⊥
Continues me (Some o) new before after = (new ≡ o.node) × (after ≡ before ++ model.outputs me o.effects)

-- There is an outcome: this node, and just these outputs.
abbrev pub HasOutcome : Process → Option model.Outcome → model.Node → List model.Output → Type 0
HasOutcome me None new sent = ⊥
HasOutcome me (Some o) new sent = (new ≡ o.node) × (sent ≡ model.outputs me o.effects)

-- Why a member's work comes to no outcome: there is none, or there is no memory.
abbrev pub Stops : Option model.Outcome → NodeFault → Type 0
Stops o Halted = ⊥
Stops o OutOfMemory = Unit {0}
Stops o HistoryFull = o ≡ None

-- Halted comes from a halted node alone, and leaves it as it is. The other faults come from a node that had not halted,
-- and halt it. The history is full only if the definition has no outcome.
abbrev pub IsFault : model.Node → model.Event → model.Node → NodeFault → Type 0
IsFault old event new Halted = (model.is_halted old ≡ true) × (new ≡ old)
IsFault old event new OutOfMemory = (model.is_halted old ≡ false) × (new ≡ model.halt old)
IsFault old event new HistoryFull = (model.is_halted old ≡ false) × (node_step old event ≡ None) × (new ≡ model.halt old)
