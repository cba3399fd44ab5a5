-- What an event does to the peer at a place.
use Rattle.std.specs.Prelude.{◌≡◌, ℕ, Bool, true, false, is_some, ◌++◌, slice_get, slice_set, Some, None}
use Rattle.rapid_model.specs.Edge.{Edge, probed}
use Rattle.rapid_model.specs.Monitors.{edge_at}
use Rattle.rapid_model.specs.Node.{Event, is_halted, member_in}
use Rattle.rapid_model.specs.World.{Peer, WorldEvent}
use Rattle.rapid_model.specs.WorldStep.{world_step, edge_on}
use Rattle.rapid_model.specs.Run.{step_reports}
use Rattle.rapid_model.specs.StoredWorld.{StoredWorld, world_of, event_refusal}
use Rattle.rapid_world.specs.Handed.{Handed, handed, told, KeepsAt}
use Rattle.rapid_world.specs.Stored.{Names}

-- The event names the peer, and is not refused, and with either mark its step puts a peer in the place of this one, adds packets and
-- reports.
pub record Does (s : StoredWorld) (e : WorldEvent) (i : ℕ) (p : Peer) (f : Bool → Handed) : Type 0 where
  pub at : slice_get (world_of s).peers i ≡ Some p
  pub names : Names (Some p.node.me) e
  pub not_refused : event_refusal s e ≡ None
  pub peers : (halts : Bool) → (world_step (world_of s) (record { event = e; halts = halts })).peers ≡ slice_set (world_of s).peers i (f halts).peer
  pub packets : (halts : Bool) → (world_step (world_of s) (record { event = e; halts = halts })).packets ≡ (world_of s).packets ++ (f halts).packets
  pub reports : (halts : Bool) → step_reports (world_of s) (record { event = e; halts = halts }) ≡ (f halts).reports

-- By the event the node of the peer at a place takes another.
pub record Hands (s : StoredWorld) (e : WorldEvent) (i : ℕ) (taken : Event) : Type 0 where
  pub peer : Peer
  pub does : Does s e i peer (handed peer taken)
  pub up : is_halted peer.node ≡ false
  pub keeps : KeepsAt peer.node taken

-- By the event the peer at a place has a further result of a probe on a ring.
pub record Probes (s : StoredWorld) (e : WorldEvent) (i : ℕ) (p : Peer) (k : ℕ) (ok : Bool) (down : Event) : Type 0 where
  pub does : Does s e i p (told p k ok down)
  pub up : is_halted p.node ≡ false
  pub member : is_some (member_in p.node) ≡ true
  pub edge : (x : Edge) × (edge_at p.edges k ≡ Some x)
  pub keeps : (probed (edge_on p.edges k) ok).is_down ≡ true → KeepsAt p.node down
