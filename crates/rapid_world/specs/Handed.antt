-- What becomes of a peer whose node takes an event.
use Rattle.std.specs.Prelude.{◌≡◌, ℕ, Bool, true, false, is_some, List, [], ◌∷◌, flat_map, slice_get, if◌then◌else◌, Option, Some, None}
use Rattle.rapid_model.specs.Process.{identifier}
use Rattle.rapid_model.specs.Monitors.{edge_at}
use Rattle.rapid_model.specs.Node.{Node, Event, Outcome, Output, outputs, configuration_of, member_in, has_installed, is_halted, halt}
use Rattle.rapid_model.specs.NodeStep.{node_step}
use Rattle.rapid_model.specs.Packets.{other_members, packets_of}
use Rattle.rapid_model.specs.World.{Peer, Packet}
use Rattle.rapid_model.specs.Edge.{Edge, probed}
use Rattle.rapid_model.specs.WorldStep.{edges_after, edge_on, with_edge}
use Rattle.rapid_model.specs.Run.{WorldReport, ReportHalted}
use Rattle.rapid_model.specs.NodeReports.{installed_report}
use Rattle.rapid_node.specs.declared.fault.NodeFault.{NodeFault}
use Rattle.rapid_node.specs.declared.fault.NodeFault.TheVariants as fault

-- A peer after its node took an event, what it sent, and what it reports.
pub record Handed : Type 0 where
  pub peer : Peer
  pub packets : List Packet
  pub reports : List WorldReport

-- The packets of what a node sends.
abbrev pub sent_by : Node → List Output → List Packet
sent_by n os = flat_map (packets_of (other_members (member_in n) n.me)) os

-- Its node halts, and sends nothing.
abbrev pub stopped : Peer → Handed
stopped p = record { peer = record p { node = halt p.node }; packets = []; reports = ReportHalted (identifier p.node.me) ∷ [] }

-- Its node makes a step.
abbrev pub went_on : Peer → Outcome → Handed
went_on p o =
    record {
      peer = record p { node = o.node; edges = edges_after p o.node };
      packets = sent_by p.node (outputs p.node.me o.effects);
      reports = if has_installed p.node o.node then installed_report p.node (configuration_of o.node) else [];
    }

-- Its node makes a step, if there is one to make.
abbrev pub stepped : Peer → Option Outcome → Handed
stepped p None = stopped p
stepped p (Some o) = went_on p o

-- Its node takes an event, unless it halts because it is out of memory.
unfoldable pub handed : Peer → Event → Bool → Handed
handed p e halts = if halts then stopped p else stepped p (node_step p.node e)

-- A node keeps its process. Unless it installs something, it keeps its configuration, is a member in the same one, and
-- would halt as it would have halted before.
pub record Keeps (old new : Node) : Type 0 where
  pub me : new.me ≡ old.me
  pub shown : has_installed old new ≡ false → configuration_of new ≡ configuration_of old
  pub member : has_installed old new ≡ false → member_in new ≡ member_in old
  pub halted : has_installed old new ≡ false → halt new ≡ halt old

-- So it does when it takes an event.
abbrev pub KeepsAt : Node → Event → Type 0
KeepsAt n e = (o : Outcome) → node_step n e ≡ Some o → Keeps n o.node

-- The fault is out of memory.
abbrev pub wants_memory : NodeFault → Bool
wants_memory fault.Halted = false
wants_memory fault.OutOfMemory = true
wants_memory fault.HistoryFull = false

-- A peer with a further result of a probe on a ring; if the edge is down, its node is told.
unfoldable pub told : Peer → ℕ → Bool → Event → Bool → Handed
told p k ok down halts =
    if (probed (edge_on p.edges k) ok).is_down then handed (with_edge p k (probed (edge_on p.edges k) ok)) down halts
    else record { peer = with_edge p k (probed (edge_on p.edges k) ok); packets = []; reports = [] }

-- A peer that crashes.
abbrev pub crash_of : Peer → Bool → Handed
crash_of p halts = record { peer = record p { crashed = true }; packets = []; reports = [] }

-- The peer at a place can take the event.
pub record TakesAt (ps : List Peer) (i : ℕ) (e : Event) : Type 0 where
  pub peer : Peer
  pub at : slice_get ps i ≡ Some peer
  pub up : is_halted peer.node ≡ false
  pub keeps : KeepsAt peer.node e

-- The peer at a place can have a further result of a probe on a ring.
pub record ProbesAt (ps : List Peer) (i k : ℕ) (ok : Bool) (down : Event) : Type 0 where
  pub peer : Peer
  pub at : slice_get ps i ≡ Some peer
  pub up : is_halted peer.node ≡ false
  pub member : is_some (member_in peer.node) ≡ true
  pub edge : (x : Edge) × (edge_at peer.edges k ≡ Some x)
  pub keeps : (probed (edge_on peer.edges k) ok).is_down ≡ true → KeepsAt peer.node down
