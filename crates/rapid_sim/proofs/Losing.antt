-- Whom nodes observe, and the founding of a run.
use Rattle.std.proofs.Common.{◌≡◌, ℕ, zero, suc, ◌+◌, add-one, Bool, true, false, cond, List, [], ◌∷◌, ◌++◌, append_assoc, append-nil, filter, flat_map, slice_get, refl, ap, sym, ◌∙◌, arith, Option, Some, None, is_some}
use Rattle.std.specs.Option.{option_map, option_and_then}
use Rattle.std.specs.List.{range_with_len}
use Rattle.rapid_model.specs.Process.{Process, identifier, same_bytes}
use Rattle.rapid_model.specs.Configuration.{Configuration, configuration_id}
use Rattle.rapid_model.specs.Edge.{Edge, probed}
use Rattle.rapid_model.specs.Node as node
use Rattle.rapid_model.specs.Node.{Outcome, Event}
use Rattle.rapid_model.specs.NodeStep.{node_step}
use Rattle.rapid_model.specs.World.{World, Peer, Packet, Act, Took, Ticked, Probed, WorldEvent, Start, Probe, Tick, Deliver, Crash, Leave, MarkedEvent, running, running_under, running_at, peer_at, packet, observed}
use Rattle.rapid_model.specs.Refusal.{refusal}
use Rattle.rapid_model.specs.WorldStep.{settled, hands, started, edge_on, with_edge, noted, probes, with_found, with_peer, deliver, by_event, world_step}
use Rattle.rapid_model.specs.Run.{run, founded}
use Rattle.rapid_model.specs.StoredWorld.{StoredWorld, world_of}
use Rattle.rapid_model.specs.SimText.{observes_on, is_observed_under, failing, losing}
use Rattle.rapid_sim.specs.Losing.{failing_where, losing_by}
use Rattle.rapid_model.proofs.Lists.{range_push}

-- Whether the process, if there is one, has the identifier.
abbrev pub has : List ℕ → Option Process → Bool
has id None = false
has id (Some p) = same_bytes id (identifier p)

by_peer : (id : List ℕ) (o : Option (Configuration × Process)) → has id (option_map (λ x. x.1) o) ≡ is_observed_under o id
by_peer id None = refl
by_peer id (Some x) = refl

pub observes : (id : List ℕ) (p : Option Peer) (k : ℕ) → has id (option_map (λ x. x.1) (option_and_then (λ p. observed p k) p)) ≡ observes_on id p k
observes id None k = refl
observes id (Some p) k = by_peer id (observed p k)

-- ---- rings

passing : {A : Type 0} (f : ℕ → List A) (p : ℕ → Bool) (xs : List ℕ) (k : ℕ) → flat_map f (filter p (xs ++ k ∷ [])) ≡ flat_map f (filter p xs) ++ cond (p k) (f k) []
passing f p [] k = by (p k)
  where
    by : (b : Bool) → flat_map f (cond b (k ∷ []) []) ≡ cond b (f k) []
    by true = append-nil (f k)
    by false = refl
passing f p (x ∷ xs) k = by (p x) (passing f p xs k)
  where
    by : (b : Bool) → flat_map f (filter p (xs ++ k ∷ [])) ≡ flat_map f (filter p xs) ++ cond (p k) (f k) []
        → flat_map f (cond b (x ∷ filter p (xs ++ k ∷ [])) (filter p (xs ++ k ∷ []))) ≡ flat_map f (cond b (x ∷ filter p xs) (filter p xs)) ++ cond (p k) (f k) []
    by true h = ap (λ ys. f x ++ ys) h ∙ sym (append_assoc (f x) (flat_map f (filter p xs)) (cond (p k) (f k) []))
    by false h = h

-- One ring more.
pub losing_more : (w : World) (id observer : List ℕ) (k : ℕ)
    → losing_by w id k observer ++ failing_where (observes_on id (peer_at w (running_under w observer)) k) observer k ≡ losing_by w id (k + 1) observer
unfolding losing_by
losing_more w id observer k =
    let p = observes_on id (peer_at w (running_under w observer)) in
    sym (ap (λ ks. flat_map (failing observer) (filter p ks)) (range_push 0 k ∙ ap (λ n. range_with_len 0 k ++ n ∷ []) zero-plus) ∙ passing (failing observer) p (range_with_len 0 k) k)
  where
    zero-plus : 0 + k ≡ k
    zero-plus = omega arith

pub losing_none : (w : World) (id observer : List ℕ) → losing_by w id 0 observer ≡ []
unfolding losing_by
losing_none w id observer = refl

-- ---- the founding of a run

keeps_settled : (w : World) (i : ℕ) (p : Peer) (acts : List Act) (o : Option Outcome) → (settled w i p acts o).founding ≡ w.founding
keeps_settled w i p acts None = refl
keeps_settled w i p acts (Some o) = refl

keeps_hands : (w : World) (i : ℕ) (p : Peer) (acts : List Act) (e : Event) (halts : Bool) → (hands w i p acts e halts).founding ≡ w.founding
unfolding hands
keeps_hands w i p acts e true = refl
keeps_hands w i p acts e false = keeps_settled w i p acts (node_step p.node e)

keeps_found : (w : World) (i : ℕ) (o : Option Peer) (f : ℕ → Peer → World) → ((p : Peer) → (f i p).founding ≡ w.founding) → (with_found w i o f).founding ≡ w.founding
keeps_found w i None f h = refl
keeps_found w i (Some p) f h = h p

keeps_peer : (w : World) (o : Option ℕ) (f : ℕ → Peer → World) → ((i : ℕ) (p : Peer) → (f i p).founding ≡ w.founding) → (with_peer w o f).founding ≡ w.founding
keeps_peer w None f h = refl
keeps_peer w (Some i) f h = keeps_found w i (slice_get w.peers i) f (h i)

keeps_told : (w : World) (i : ℕ) (p : Peer) (x : Configuration × Process) (k : ℕ) (ok halts b : Bool) (e : Edge)
    → (cond b (hands w i (with_edge p k e) (Probed k ok ∷ []) (node.EdgeDown (configuration_id x.0) k x.1) halts) (noted w i p k ok e)).founding ≡ w.founding
keeps_told w i p x k ok halts true e = keeps_hands w i (with_edge p k e) (Probed k ok ∷ []) (node.EdgeDown (configuration_id x.0) k x.1) halts
keeps_told w i p x k ok halts false e = refl

keeps_probes : (w : World) (i : ℕ) (p : Peer) (o : Option (Configuration × Process)) (k : ℕ) (ok halts : Bool) → (probes w i p o k ok halts).founding ≡ w.founding
keeps_probes w i p None k ok halts = refl
keeps_probes w i p (Some x) k ok halts = let e = probed (edge_on p.edges k) ok in keeps_told w i p x k ok halts e.is_down e

keeps_deliver : (w : World) (o : Option Packet) (halts : Bool) → (deliver w o halts).founding ≡ w.founding
keeps_deliver w None halts = refl
keeps_deliver w (Some x) halts = keeps_peer w (running_at w x.to) _ (λ i p. keeps_hands w i p (Took x.message ∷ []) (node.Receive x.message) halts)

keeps_start : (w : World) (p : Process) (seed : List ℕ) (b : Bool) → (cond b w (started w p seed)).founding ≡ w.founding
keeps_start w p seed true = refl
keeps_start w p seed false = refl

keeps_step : (w : World) (m : MarkedEvent) → (world_step w m).founding ≡ w.founding
unfolding world_step
keeps_step w m = by m.event
  where
    by : (e : WorldEvent) → (by_event w e m.halts).founding ≡ w.founding
    by (Start p seed) = keeps_start w p seed (is_some (refusal w (Start p seed)))
    by (Probe id k ok) = keeps_peer w (running_under w id) _ (λ i p. keeps_probes w i p (observed p k) k ok m.halts)
    by (Tick id) = keeps_peer w (running_under w id) _ (λ i p. keeps_hands w i p (Ticked ∷ []) node.Tick m.halts)
    by (Deliver k) = keeps_deliver w (packet w k) m.halts
    by (Crash id) = keeps_peer w (running_under w id) _ (λ i p. refl)
    by (Leave id) = keeps_peer w (running_under w id) _ (λ i p. keeps_hands w i p [] node.Leave m.halts)

run_keeps : (ms : List MarkedEvent) (w : World) → (run ms w).founding ≡ w.founding
run_keeps [] w = refl
run_keeps (m ∷ ms) w = run_keeps ms (world_step w m) ∙ keeps_step w m

pub world_founding : (s : StoredWorld) → (world_of s).founding ≡ s.founding
unfolding world_of
world_founding s = run_keeps s.events (founded s.founding)

-- All that run lose the member.
pub losing_is : (s : StoredWorld) (id : List ℕ) (k : ℕ) → k ≡ s.founding.params.k → flat_map (losing_by (world_of s) id k) (running (world_of s)) ≡ losing (world_of s) id
unfolding losing losing_by
losing_is s id k is =
    ap (λ n. flat_map (λ observer. flat_map (failing observer) (filter (observes_on id (peer_at (world_of s) (running_under (world_of s) observer))) (range_with_len 0 n))) (running (world_of s)))
    (is ∙ ap (λ c. c.params.k) (sym (world_founding s)))
