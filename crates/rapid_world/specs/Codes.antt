-- Codes of peers and of stored worlds, by which a proof tells their values apart.
use Rattle.std.specs.Prelude.{◌≡◌, ◌⊎◌, ℕ, Bool, List, refl}
use Rattle.std.proofs.Common.{inl, inr}
use Rattle.std.specs.Coded.{Coded, code_by, coded×, coded⊎, coded_ℕ, coded_bool, coded_list, coded_option}
use Rattle.rapid_model.specs.Process.{Process}
use Rattle.rapid_model.specs.Configuration.{Configuration}
use Rattle.rapid_model.specs.Codes.{bytes_code}
use Rattle.rapid_model.specs.Edge.{Edge}
use Rattle.rapid_model.specs.Monitors.{Monitors}
use Rattle.rapid_model.specs.Node.{Node}
use Rattle.rapid_model.specs.World.{Peer, WorldEvent, Start, Probe, Tick, Deliver, Crash, Leave, MarkedEvent}
use Rattle.rapid_model.specs.StoredWorld.{StoredWorld}
use Rattle.rapid_world.specs.Stored.{Store}
use Rattle.rapid_join.specs.Hosts.{configuration_code}
use Rattle.rapid_node.specs.Codes.{node_code}

-- Edges.
abbrev pub edge_code : Coded Edge
edge_code = code_by (List Bool × Bool) (coded× (coded_list coded_bool) coded_bool) (λ e. (e.window, e.is_down)) (λ x. record { window = x.0; is_down = x.1 }) (λ _. refl)

-- Peers.
abbrev pub peer_code : Coded Peer
peer_code =
    code_by (Node × (Bool × Monitors))
    (coded× node_code (coded× coded_bool (coded_list (coded_option edge_code))))
    (λ p. (p.node, (p.crashed, p.edges)))
    (λ x. record { node = x.0; crashed = x.1.0; edges = x.1.1 })
    (λ _. refl)

abbrev Cases : Type 0
Cases = (Process × List ℕ) ⊎ ((List ℕ × (ℕ × Bool)) ⊎ (List ℕ ⊎ (ℕ ⊎ (List ℕ ⊎ List ℕ))))

abbrev cases : WorldEvent → Cases
cases (Start p seed) = inl (p, seed)
cases (Probe id k ok) = inr (inl (id, (k, ok)))
cases (Tick id) = inr (inr (inl id))
cases (Deliver k) = inr (inr (inr (inl k)))
cases (Crash id) = inr (inr (inr (inr (inl id))))
cases (Leave id) = inr (inr (inr (inr (inr id))))

abbrev event_from : Cases → WorldEvent
event_from (inl x) = Start x.0 x.1
event_from (inr (inl x)) = Probe x.0 x.1.0 x.1.1
event_from (inr (inr (inl id))) = Tick id
event_from (inr (inr (inr (inl k)))) = Deliver k
event_from (inr (inr (inr (inr (inl id))))) = Crash id
event_from (inr (inr (inr (inr (inr id))))) = Leave id

-- An event is got back from its case.
pub event_back : (e : WorldEvent) → event_from (cases e) ≡ e
event_back (Start p seed) = refl
event_back (Probe id k ok) = refl
event_back (Tick id) = refl
event_back (Deliver k) = refl
event_back (Crash id) = refl
event_back (Leave id) = refl

-- Events.
abbrev pub event_code : Coded WorldEvent
event_code =
    code_by Cases
    (coded⊎ (coded× bytes_code bytes_code) (coded⊎ (coded× bytes_code (coded× coded_ℕ coded_bool)) (coded⊎ bytes_code (coded⊎ coded_ℕ (coded⊎ bytes_code bytes_code)))))
    cases event_from event_back

-- Events with their marks.
abbrev pub marked_code : Coded MarkedEvent
marked_code = code_by (WorldEvent × Bool) (coded× event_code coded_bool) (λ m. (m.event, m.halts)) (λ x. record { event = x.0; halts = x.1 }) (λ _. refl)

-- Stored worlds.
abbrev pub stored_code : Coded StoredWorld
stored_code =
    code_by (Configuration × List MarkedEvent) (coded× configuration_code (coded_list marked_code)) (λ s. (s.founding, s.events)) (λ x. record { founding = x.0; events = x.1 }) (λ _. refl)

-- What a world stores.
abbrev pub store_code : Coded Store
store_code =
    code_by (StoredWorld × (ℕ × ℕ)) (coded× stored_code (coded× coded_ℕ coded_ℕ)) (λ s. (s.world, (s.room, s.start_room))) (λ x. record { world = x.0; room = x.1.0; start_room = x.1.1 }) (λ _. refl)
