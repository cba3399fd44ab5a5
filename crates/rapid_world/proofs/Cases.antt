-- What each event does.
use Rattle.std.proofs.Common.{◌≡◌, ℕ, zero, suc, ◌-◌, ◌<◌, Bool, true, false, cond, not, ◌&&◌, ◌==◌, drop, List, [], ◌∷◌, ◌++◌, length, slice_get, get_or, refl, sym, ap, subst, ◌∙◌, Option, Some, None, arith}
use Rattle.std.specs.Prelude.{Contains, position, is_some, nat_lt, map, All}
use Rattle.std.specs.List.{list_any, position_or_len}
use Rattle.std.proofs.lemmas.Bool.{and_parts}
use Rattle.std.proofs.lemmas.List.{map_push, append-nil}
use Rattle.std.proofs.lemmas.Option.{slice_get-get_or}
use Rattle.rapid_world.specs.Windows.{edge_of}
use Rattle.rapid_model.specs.Process.{Process, identifier, endpoint}
use Rattle.rapid_model.specs.Configuration.{Configuration, AreMembers, configuration_id}
use Rattle.rapid_model.specs.Edge.{Edge, probed}
use Rattle.rapid_model.specs.Monitors.{edge_at}
use Rattle.rapid_model.specs.Node as node
use Rattle.rapid_model.specs.Node.{Node, Phase, Joining, Member, Removed, Halted, Event, EdgeDown, Receive, member_in, member_config, is_halted, joiner_node}
use Rattle.rapid_model.specs.World.{World, Peer, Packet, Took, Ticked, Probed, Crashed, WorldEvent, Start, Probe, Tick, Deliver, Crash, Leave, is_running, has_identifier, has_endpoint, running_under, running_at, packet, observed, observed_in, peer_at}
use Rattle.rapid_model.specs.WorldStep.{world_step, hands, with_peer, with_found, probes, noted, deliver, message_at, with_edge, edge_on, crashed, added, started}
use Rattle.rapid_model.specs.WorldStep as step
use Rattle.rapid_model.specs.Refusal.{refusal, unless_node, unless_observed, unless_received, NoSuchNode, NoSuchPacket, NotObserved, IdentifierUsed, EndpointBusy, EventsFull}
use Rattle.rapid_model.specs.Run.{reports_of}
use Rattle.rapid_model.specs.StoredWorld.{StoredWorld, StoresEvent, world_of, event_refusal, with_event, accepted}
use Rattle.rapid_safety.proofs.Histories.{now_member}
use Rattle.rapid_safety.proofs.Steps.{found, by_tick, by_packet, by_probe, by_wish}
use Rattle.rapid_model.proofs.Orders.{same_bytes_decides}
use Rattle.rapid_world.specs.Framed.{FramedPacket, framed_packet, HasFrame}
use Rattle.rapid_world.specs.Handed.{handed, told, crash_of}
use Rattle.rapid_world.specs.Does.{Does, Hands, Probes}
use Rattle.rapid_world.specs.Stored.{started_in}
use Rattle.rapid_world.specs.Worlds.{IsRunOf}
use Rattle.rapid_world.proofs.Doing.{Read, new_acts, reads_hands, does_read, one_more, lives}
use Rattle.rapid_world.proofs.Keeping.{keeps_at}
use Rattle.rapid_world.proofs.Storing.{one_started}
use Rattle.rapid_model.proofs.Lists.{contains_at}

-- ---- who is found

pub place_within : {A : Type 0} (f : A → Bool) (xs : List A) (i : ℕ) → position f xs ≡ Some i → i < length xs
place_within f xs i e = by (nat_lt k (length xs)) refl e
  where
    k : ℕ
    k = position_or_len f xs

    by : (b : Bool) → nat_lt k (length xs) ≡ b → cond b (Some k) None ≡ Some i → i < length xs
    by true l h = let is : k ≡ i = cc in let less : k < length xs = Prim.grind (arith, l) in omega arith
    by false l h = cc

stands : {A : Type 0} (xs : List A) (i : ℕ) → i < length xs → (x : A) × (slice_get xs i ≡ Some x)
stands [] i h = absurd (omega arith)
stands (x ∷ xs) zero h = (x, refl)
stands (x ∷ xs) (suc i) h = stands xs i (omega arith)

up : (p : Peer) → is_running p ≡ true → is_halted p.node ≡ false
up p h = not_so (is_halted p.node) (and_parts (not p.crashed) (not (is_halted p.node)) h).1
  where
    not_so : (a : Bool) → not a ≡ true → a ≡ false
    not_so true e = cc
    not_so false e = refl

by_peer : (w : World) (o : Option ℕ) (i : ℕ) (p : Peer) (f : ℕ → Peer → World) → o ≡ Some i → slice_get w.peers i ≡ Some p → with_peer w o f ≡ f i p
by_peer w o i p f e at = ap (λ x. with_peer w x f) e ∙ ap (λ x. with_found w i x f) at

runs_under : (w : World) (id : List ℕ) (i : ℕ) (p : Peer) → running_under w id ≡ Some i → slice_get w.peers i ≡ Some p → is_running p ≡ true
runs_under w id i p e h = (and_parts _ _ (found (λ q. is_running q && has_identifier id q) w.peers i p e h)).0

-- who is found under an identifier has it
is_named : (w : World) (id : List ℕ) (i : ℕ) (p : Peer) → running_under w id ≡ Some i → slice_get w.peers i ≡ Some p → Some (identifier p.node.me) ≡ Some id
is_named w id i p e h =
    ap Some (sym ((same_bytes_decides id (identifier p.node.me)).0 (and_parts _ _ (found (λ q. is_running q && has_identifier id q) w.peers i p e h)).1))

was_sent : (w : World) (k : ℕ) (x : Packet) (first : Bool) → cond first None (slice_get w.packets (k - 1)) ≡ Some x → Contains w.packets x
was_sent w k x true h = cc
was_sent w k x false h = contains_at w.packets (k - 1) x h

-- ---- refusals

abbrev pub Open : StoredWorld → Type 0
Open s = nat_lt (accepted s) 1000000 ≡ true

refused_as : (s : StoredWorld) (e : WorldEvent) → Open s → event_refusal s e ≡ refusal (world_of s) e
unfolding event_refusal
refused_as s e h = ap (λ b. cond b (refusal (world_of s) e) (Some EventsFull)) h

pub full : (s : StoredWorld) (e : WorldEvent) → nat_lt (accepted s) 1000000 ≡ false → event_refusal s e ≡ Some EventsFull
unfolding event_refusal
full s e h = ap (λ b. cond b (refusal (world_of s) e) (Some EventsFull)) h

pub tick_refused : (s : StoredWorld) (id : List ℕ) → Open s → running_under (world_of s) id ≡ None → event_refusal s (Tick id) ≡ Some NoSuchNode
tick_refused s id isopen none = refused_as s (Tick id) isopen ∙ ap unless_node none

pub leave_refused : (s : StoredWorld) (id : List ℕ) → Open s → running_under (world_of s) id ≡ None → event_refusal s (Leave id) ≡ Some NoSuchNode
leave_refused s id isopen none = refused_as s (Leave id) isopen ∙ ap unless_node none

pub crash_refused : (s : StoredWorld) (id : List ℕ) → Open s → running_under (world_of s) id ≡ None → event_refusal s (Crash id) ≡ Some NoSuchNode
crash_refused s id isopen none = refused_as s (Crash id) isopen ∙ ap unless_node none

pub deliver_refused : (s : StoredWorld) (k : ℕ) → Open s → packet (world_of s) k ≡ None → event_refusal s (Deliver k) ≡ Some NoSuchPacket
deliver_refused s k isopen none = refused_as s (Deliver k) isopen ∙ ap (unless_received (world_of s)) none

pub receiver_refused : (s : StoredWorld) (k : ℕ) (x : Packet) → Open s → packet (world_of s) k ≡ Some x → running_at (world_of s) x.to ≡ None → event_refusal s (Deliver k) ≡ Some NoSuchNode
receiver_refused s k x isopen at none = refused_as s (Deliver k) isopen ∙ ap (unless_received (world_of s)) at ∙ ap unless_node none

pub probe_refused : (s : StoredWorld) (id : List ℕ) (k : ℕ) (ok : Bool) → Open s → running_under (world_of s) id ≡ None → event_refusal s (Probe id k ok) ≡ Some NoSuchNode
probe_refused s id k ok isopen none = refused_as s (Probe id k ok) isopen ∙ ap (λ o. unless_observed (peer_at (world_of s) o) k) none

probe_refusal : (s : StoredWorld) (id : List ℕ) (k : ℕ) (ok : Bool) (i : ℕ) (p : Peer) → Open s → running_under (world_of s) id ≡ Some i → slice_get (world_of s).peers i ≡ Some p →
    event_refusal s (Probe id k ok) ≡ cond (is_some (observed p k)) None (Some NotObserved)
probe_refusal s id k ok i p isopen e at = refused_as s (Probe id k ok) isopen ∙ ap (λ o. unless_observed (peer_at (world_of s) o) k) e ∙ ap (λ o. unless_observed o k) at

pub not_observed : (s : StoredWorld) (id : List ℕ) (k : ℕ) (ok : Bool) (i : ℕ) (p : Peer) → Open s → running_under (world_of s) id ≡ Some i → slice_get (world_of s).peers i ≡ Some p → observed p k ≡ None →
    event_refusal s (Probe id k ok) ≡ Some NotObserved
not_observed s id k ok i p isopen e at none = probe_refusal s id k ok i p isopen e at ∙ ap (λ o. cond (is_some o) None (Some NotObserved)) none

pub start_used : (s : StoredWorld) (p : Process) (seed : List ℕ) → Open s → list_any (has_identifier (identifier p)) (world_of s).peers ≡ true → event_refusal s (Start p seed) ≡ Some IdentifierUsed
start_used s p seed isopen used = refused_as s (Start p seed) isopen ∙ ap (λ b. cond b (Some IdentifierUsed) (cond (is_some (running_at (world_of s) (endpoint p))) (Some EndpointBusy) None)) used

pub start_busy : (s : StoredWorld) (p : Process) (seed : List ℕ) → Open s → list_any (has_identifier (identifier p)) (world_of s).peers ≡ false → is_some (running_at (world_of s) (endpoint p)) ≡ true →
    event_refusal s (Start p seed) ≡ Some EndpointBusy
start_busy s p seed isopen fresh busy =
    refused_as s (Start p seed) isopen ∙ ap (λ b. cond b (Some IdentifierUsed) (cond (is_some (running_at (world_of s) (endpoint p))) (Some EndpointBusy) None)) fresh
    ∙ ap (λ b. cond b (Some EndpointBusy) None) busy

start_taken : (s : StoredWorld) (p : Process) (seed : List ℕ) → list_any (has_identifier (identifier p)) (world_of s).peers ≡ false → is_some (running_at (world_of s) (endpoint p)) ≡ false → refusal (world_of s) (Start p seed) ≡ None
start_taken s p seed fresh free =
    ap (λ b. cond b (Some IdentifierUsed) (cond (is_some (running_at (world_of s) (endpoint p))) (Some EndpointBusy) None)) fresh ∙ ap (λ b. cond b (Some EndpointBusy) None) free

pub start_open : (s : StoredWorld) (p : Process) (seed : List ℕ) → Open s → list_any (has_identifier (identifier p)) (world_of s).peers ≡ false → is_some (running_at (world_of s) (endpoint p)) ≡ false → event_refusal s (Start p seed) ≡ None
start_open s p seed isopen fresh free = refused_as s (Start p seed) isopen ∙ start_taken s p seed fresh free

-- ---- what the events do

pub tick_hands : (s : StoredWorld) (id : List ℕ) (i : ℕ) → AreMembers s.founding.members → Open s → running_under (world_of s) id ≡ Some i → Hands s (Tick id) i node.Tick
unfolding world_step
tick_hands s id i are isopen e =
    let w = world_of s in
    let t = stands w.peers i (place_within _ w.peers i e) in
    record {
      peer = t.0;
      does = does_read s (Tick id) i t.0 (handed t.0 node.Tick) t.1 (is_named w id i t.0 e t.1) (refused_as s (Tick id) isopen ∙ ap unless_node e)
          (λ h. subst (λ v. Read w v i (handed t.0 node.Tick h)) (sym (by_peer w (running_under w id) i t.0 (λ i p. hands w i p (Ticked ∷ []) node.Tick h) e t.1)) (reads_hands w i t.0 (Ticked ∷ []) node.Tick h (λ acts. refl)));
      up = up t.0 (runs_under w id i t.0 e t.1);
      keeps = keeps_at w (lives s are) i t.0 t.0 (Ticked ∷ []) node.Tick t.1 refl (by_tick t.0 t.1);
    }

pub leave_hands : (s : StoredWorld) (id : List ℕ) (i : ℕ) → AreMembers s.founding.members → Open s → running_under (world_of s) id ≡ Some i → Hands s (Leave id) i node.Leave
unfolding world_step
leave_hands s id i are isopen e =
    let w = world_of s in
    let t = stands w.peers i (place_within _ w.peers i e) in
    record {
      peer = t.0;
      does = does_read s (Leave id) i t.0 (handed t.0 node.Leave) t.1 (is_named w id i t.0 e t.1) (refused_as s (Leave id) isopen ∙ ap unless_node e)
          (λ h. subst (λ v. Read w v i (handed t.0 node.Leave h)) (sym (by_peer w (running_under w id) i t.0 (λ i p. hands w i p [] node.Leave h) e t.1)) (reads_hands w i t.0 [] node.Leave h (λ acts. refl)));
      up = up t.0 (runs_under w id i t.0 e t.1);
      keeps = keeps_at w (lives s are) i t.0 t.0 [] node.Leave t.1 refl (by_wish t.0 t.1);
    }

pub deliver_hands : (s : StoredWorld) (k : ℕ) (x : Packet) (i : ℕ) → AreMembers s.founding.members → Open s → packet (world_of s) k ≡ Some x → running_at (world_of s) x.to ≡ Some i → Hands s (Deliver k) i (Receive x.message)
unfolding world_step
deliver_hands s k x i are isopen sent e =
    let w = world_of s in
    let t = stands w.peers i (place_within _ w.peers i e) in
    let f = and_parts _ _ (found (λ q. is_running q && has_endpoint x.to q) w.peers i t.0 e t.1) in
    record {
      peer = t.0;
      does = does_read s (Deliver k) i t.0 (handed t.0 (Receive x.message)) t.1 tt (refused_as s (Deliver k) isopen ∙ ap (unless_received w) sent ∙ ap unless_node e)
          (λ h. subst (λ v. Read w v i (handed t.0 (Receive x.message) h))
          (sym (ap (λ o. deliver w o h) sent ∙ by_peer w (running_at w x.to) i t.0 (λ i p. hands w i p (Took x.message ∷ []) (Receive x.message) h) e t.1))
          (reads_hands w i t.0 (Took x.message ∷ []) (Receive x.message) h (λ acts. refl)));
      up = up t.0 f.0;
      keeps = keeps_at w (lives s are) i t.0 t.0 (Took x.message ∷ []) (Receive x.message) t.1 refl
          (by_packet t.0 x t.1 (was_sent w k x (k == 0) sent) ((same_bytes_decides _ _).0 f.1));
    }

reads_crashed : (w : World) (i : ℕ) (p : Peer) (h : Bool) → Read w (crashed w i p) i (crash_of p h)
reads_crashed w i p h = record { peers = refl; packets = sym (append-nil w.packets); reports = new_acts w.log p.node (Crashed ∷ []) [] (λ acts. refl) }

pub crash_does : (s : StoredWorld) (id : List ℕ) (i : ℕ) → Open s → running_under (world_of s) id ≡ Some i → (p : Peer) × Does s (Crash id) i p (crash_of p)
unfolding world_step
crash_does s id i isopen e =
    let w = world_of s in
    let t = stands w.peers i (place_within _ w.peers i e) in (
      t.0,
      does_read s (Crash id) i t.0 (crash_of t.0) t.1 (is_named w id i t.0 e t.1) (refused_as s (Crash id) isopen ∙ ap unless_node e)
          (λ h. subst (λ v. Read w v i (crash_of t.0 h)) (sym (by_peer w (running_under w id) i t.0 (λ i p. crashed w i p) e t.1)) (reads_crashed w i t.0 h)),
    )

reads_told : (w : World) (i : ℕ) (p : Peer) (x : Configuration × Process) (k : ℕ) (ok h : Bool) →
    Read w (step.told w i p x k ok (probed (edge_on p.edges k) ok) h) i (told p k ok (EdgeDown (configuration_id x.0) k x.1) h)
unfolding told
reads_told w i p x k ok h = by (probed (edge_on p.edges k) ok).is_down
  where
    e : Edge
    e = probed (edge_on p.edges k) ok

    ev : Event
    ev = EdgeDown (configuration_id x.0) k x.1

    by : (b : Bool) → Read w (cond b (hands w i (with_edge p k e) (Probed k ok ∷ []) ev h) (noted w i p k ok e)) i
        (cond b (handed (with_edge p k e) ev h) (record { peer = with_edge p k e; packets = []; reports = [] }))
    by true = reads_same
      where
        r : Read w (hands w i (with_edge p k e) (Probed k ok ∷ []) ev h) i (handed (with_edge p k e) ev h)
        r = reads_hands w i (with_edge p k e) (Probed k ok ∷ []) ev h (λ acts. refl)

        reads_same : Read w (hands w i (with_edge p k e) (Probed k ok ∷ []) ev h) i (handed (with_edge p k e) ev h)
        reads_same = r
    by false = record { peers = refl; packets = sym (append-nil w.packets); reports = new_acts w.log p.node (Probed k ok ∷ []) [] (λ acts. refl) }

pub probe_does : (s : StoredWorld) (id : List ℕ) (k : ℕ) (ok : Bool) (i : ℕ) (p : Peer) (x : Configuration × Process) → AreMembers s.founding.members → Open s → running_under (world_of s) id ≡ Some i →
    slice_get (world_of s).peers i ≡ Some p → observed p k ≡ Some x → Probes s (Probe id k ok) i p k ok (EdgeDown (configuration_id x.0) k x.1)
unfolding world_step
probe_does s id k ok i p x are isopen e at ob =
    let w = world_of s in
    let ev : Event = EdgeDown (configuration_id x.0) k x.1 in
    record {
      does = does_read s (Probe id k ok) i p (told p k ok ev) at (is_named w id i p e at) (probe_refusal s id k ok i p isopen e at ∙ ap (λ o. cond (is_some o) None (Some NotObserved)) ob)
          (λ h. subst (λ v. Read w v i (told p k ok ev h))
          (sym (by_peer w (running_under w id) i p (λ i p. probes w i p (observed p k) k ok h) e at ∙ ap (λ o. probes w i p o k ok h) ob))
          (reads_told w i p x k ok h));
      up = up p (runs_under w id i p e at);
      member = in_one p.node.phase ob;
      edge = sees p.node.phase refl ob;
      keeps = λ down. keeps_at w (lives s are) i p (with_edge p k (probed (edge_on p.edges k) ok)) (Probed k ok ∷ []) ev at refl (by_probe p x.0 k x.1 ok at ob down);
    }
  where
    in_one : (ph : Phase) → observed_in (member_config ph) p.node.me k ≡ Some x → is_some (member_config ph) ≡ true
    in_one (Joining j) h = cc
    in_one (Member m) h = refl
    in_one (Removed c) h = cc
    in_one (Halted c) h = cc

    sees : (ph : Phase) → p.node.phase ≡ ph → observed_in (member_config ph) p.node.me k ≡ Some x → (z : Edge) × (edge_at p.edges k ≡ Some z)
    sees (Joining j) is h = cc
    sees (Member m) is h = (now_member (world_of s) (lives s are) i p m at is).sees k x h
    sees (Removed c) is h = cc
    sees (Halted c) is h = cc

-- a start, stored
pub start_run : (s : StoredWorld) (p : Process) (seed : List ℕ) (ps : List Peer) (sent : List FramedPacket) (q : Peer) → Open s →
    list_any (has_identifier (identifier p)) (world_of s).peers ≡ false → is_some (running_at (world_of s) (endpoint p)) ≡ false → q ≡ added (joiner_node p seed) →
    IsRunOf s ps sent → IsRunOf (with_event s (record { event = Start p seed; halts = false })) (ps ++ q ∷ []) sent
unfolding world_step
start_run s p seed ps sent q isopen fresh free is old =
    let next = one_more s (record { event = Start p seed; halts = false }) ∙ ap (λ o. cond (is_some o) (world_of s) (started (world_of s) p seed)) (start_taken s p seed fresh free) in
    record {
      params = old.params;
      members = old.members;
      peers = ap (λ (l : List Peer). l ++ q ∷ []) old.peers ∙ ap (λ (x : Peer). (world_of s).peers ++ x ∷ []) is ∙ sym (ap (λ (w : World). w.peers) next);
      who = map_push (λ (x : Peer). x.node.me) ps q ∙ ap (λ (l : List Process). l ++ q.node.me ∷ []) old.who ∙ ap (λ (x : Peer). started_in s ++ x.node.me ∷ []) is ∙ sym (one_started s p seed);
      packets = old.packets ∙ sym (ap (λ (w : World). map framed_packet w.packets) next);
      framed = subst (λ (w : World). All HasFrame w.packets) (sym next) old.framed;
    }

whole : {A : Type 0} (xs : List A) → drop (length xs) xs ≡ []
whole [] = refl
whole (x ∷ xs) = whole xs

pub start_stored : (s : StoredWorld) (p : Process) (seed : List ℕ) → Open s →
    list_any (has_identifier (identifier p)) (world_of s).peers ≡ false → is_some (running_at (world_of s) (endpoint p)) ≡ false →
    StoresEvent s (with_event s (record { event = Start p seed; halts = false })) (Start p seed) []
unfolding world_step
start_stored s p seed isopen fresh free =
    record {
      halts = false;
      not_refused = start_open s p seed isopen fresh free;
      stored = refl;
      reported = sym (ap reports_of (ap (λ (w : World). drop (length (world_of s).log) w.log) (ap (λ o. cond (is_some o) (world_of s) (started (world_of s) p seed)) (start_taken s p seed fresh free)) ∙ whole (world_of s).log));
      marked = λ t. cc;
      needed = λ t. cc;
    }

-- by the edge that a node observes
pub edge_probes : (s : StoredWorld) (id : List ℕ) (k : ℕ) (ok : Bool) (i : ℕ) (p : Peer) (config : List ℕ) (subject : Process) → AreMembers s.founding.members → Open s → running_under (world_of s) id ≡ Some i →
    slice_get (world_of s).peers i ≡ Some p → Some (config, subject) ≡ edge_of (observed p k) → (q : Peer) × Probes s (Probe id k ok) i q k ok (EdgeDown config k subject)
edge_probes s id k ok i p config subject are isopen e at seen = by (observed p k) refl seen
  where
    by : (o : Option (Configuration × Process)) → observed p k ≡ o → Some (config, subject) ≡ edge_of o → (q : Peer) × Probes s (Probe id k ok) i q k ok (EdgeDown config k subject)
    by None ob h = cc
    by (Some x) ob h =
        let same : (config, subject) ≡ (configuration_id x.0, x.1) = cc in
        (p, subst (λ (y : List ℕ × Process). Probes s (Probe id k ok) i p k ok (EdgeDown y.0 k y.1)) (sym same) (probe_does s id k ok i p x are isopen e at ob))

pub edge_unseen : (s : StoredWorld) (id : List ℕ) (k : ℕ) (ok : Bool) (i : ℕ) (p : Peer) → Open s → running_under (world_of s) id ≡ Some i → slice_get (world_of s).peers i ≡ Some p → None ≡ edge_of (observed p k) →
    event_refusal s (Probe id k ok) ≡ Some NotObserved
edge_unseen s id k ok i p isopen e at seen = not_observed s id k ok i p isopen e at (by (observed p k) seen)
  where
    by : (o : Option (Configuration × Process)) → None ≡ edge_of o → o ≡ None
    by None h = refl
    by (Some x) h = cc

pub under_within : (w : World) (id : List ℕ) (i : ℕ) → running_under w id ≡ Some i → i < length w.peers
under_within w id i e = place_within _ w.peers i e

pub stands_read : (ps : List Peer) (i : ℕ) (p : Peer) → i < length ps → p ≡ get_or ps i p → slice_get ps i ≡ Some p
stands_read ps i p l read = slice_get-get_or ps i p l ∙ ap Some (sym read)
