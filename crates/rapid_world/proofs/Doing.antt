-- Steps of a world, read off what they do to the peer at a place.
use Rattle.std.proofs.Common.{◌≡◌, ℕ, zero, suc, Bool, true, false, cond, List, [], ◌∷◌, ◌++◌, map, length, drop, slice_get, slice_set, refl, sym, ap, subst, ◌∙◌, Option, Some, None, append_assoc}
use Rattle.std.specs.Prelude.{IsTrue, All}
use Rattle.std.proofs.lemmas.List.{map-append, append-nil}
use Rattle.std.proofs.lemmas.List.Elements.{All-append}
use Rattle.std.specs.List.{list_any}
use Rattle.rapid_model.specs.Process.{Process}
use Rattle.rapid_model.specs.Configuration.{AreMembers}
use Rattle.rapid_model.specs.Edge.{probed}
use Rattle.rapid_model.specs.Node.{Node, Event, EdgeDown, Effect, Outcome, configuration_of}
use Rattle.rapid_model.specs.NodeStep.{node_step}
use Rattle.rapid_model.specs.World.{World, Peer, Act, Did, HasHalted, WorldEvent, MarkedEvent, Entry}
use Rattle.rapid_model.specs.WorldStep.{world_step, hands, halted, settled, moved, entry, install_acts, with_edge, edge_on}
use Rattle.rapid_model.specs.Run.{run, founded, WorldReport, reports_of}
use Rattle.rapid_model.specs.StoredWorld.{StoredWorld, StoresEvent, world_of, event_refusal, with_event, is_halt}
use Rattle.rapid_model.proofs.Reporting.{installs}
use Rattle.rapid_safety.proofs.Histories.{Lived}
use Rattle.rapid_safety.proofs.Lived.{lived_run}
use Rattle.rapid_world.specs.Framed.{FramedPacket, framed_packet, HasFrame}
use Rattle.rapid_world.specs.Handed.{Handed, stopped, went_on, stepped, handed, told}
use Rattle.rapid_world.specs.Worlds.{IsRunOf}
use Rattle.rapid_world.specs.Does.{Does}
use Rattle.rapid_world.specs.Stored.{Names}
use Rattle.rapid_world.proofs.Going.{goes_quiet, edge_goes}
use Rattle.rapid_world.proofs.Storing.{same_started}

-- ---- one event more

run_more : (es : List MarkedEvent) (m : MarkedEvent) (w : World) → run (es ++ m ∷ []) w ≡ world_step (run es w) m
run_more [] m w = refl
run_more (e ∷ es) m w = run_more es m (world_step w e)

pub one_more : (s : StoredWorld) (m : MarkedEvent) → world_of (with_event s m) ≡ world_step (world_of s) m
unfolding world_of
one_more s m = run_more s.events m (founded s.founding)

pub lives : (s : StoredWorld) → AreMembers s.founding.members → Lived (world_of s)
unfolding world_of
lives s are = lived_run s.founding s.events are

-- ---- what a step does, stored

-- the processes are the same if one peer is replaced by one of its process
same_who : (ps : List Peer) (i : ℕ) (p q : Peer) → slice_get ps i ≡ Some p → q.node.me ≡ p.node.me → map (λ (x : Peer). x.node.me) (slice_set ps i q) ≡ map (λ (x : Peer). x.node.me) ps
same_who [] i p q at same = cc
same_who (x ∷ ps) zero p q at same = let is : x ≡ p = cc in ap (λ (me : Process). me ∷ map (λ (y : Peer). y.node.me) ps) (same ∙ ap (λ (y : Peer). y.node.me) (sym is))
same_who (x ∷ ps) (suc i) p q at same = ap (λ (l : List Process). x.node.me ∷ l) (same_who ps i p q at same)

pub done_run : (s : StoredWorld) (e : WorldEvent) (i : ℕ) (p : Peer) (f : Bool → Handed) (ps : List Peer) (sent : List FramedPacket) (h : Bool) → Does s e i p f → (f h).peer.node.me ≡ p.node.me → All HasFrame (f h).packets → IsRunOf s ps sent →
    IsRunOf (with_event s (record { event = e; halts = h })) (slice_set ps i (f h).peer) (sent ++ map framed_packet (f h).packets)
done_run s e i p f ps sent h does same framed old =
    let all : (world_of s).packets ++ (f h).packets ≡ (world_of (with_event s (record { event = e; halts = h }))).packets =
    sym (does.packets h) ∙ sym (ap (λ (w : World). w.packets) (one_more s _)) in
    record {
      params = old.params;
      members = old.members;
      peers = ap (λ (l : List Peer). slice_set l i (f h).peer) old.peers ∙ sym (does.peers h) ∙ sym (ap (λ (w : World). w.peers) (one_more s _));
      who = same_who ps i p (f h).peer (ap (λ (l : List Peer). slice_get l i) old.peers ∙ does.at) same ∙ old.who ∙ sym (same_started s (record { event = e; halts = h }) (Some p.node.me) does.names);
      packets = ap (λ (l : List FramedPacket). l ++ map framed_packet (f h).packets) old.packets ∙ sym (map-append framed_packet (world_of s).packets (f h).packets) ∙ ap (map framed_packet) all;
      framed = subst (All HasFrame) all (All-append HasFrame (world_of s).packets (f h).packets old.framed framed);
    }

pub done_stored : (s : StoredWorld) (e : WorldEvent) (i : ℕ) (p : Peer) (f : Bool → Handed) (h : Bool) (reports : List WorldReport) → Does s e i p f → reports ≡ (f h).reports →
    (h ≡ true → IsTrue (list_any is_halt (f h).reports)) → (h ≡ true → list_any is_halt (f false).reports ≡ false) → StoresEvent s (with_event s (record { event = e; halts = h })) e reports
done_stored s e i p f h reports does told marks needs =
    record {
      halts = h;
      not_refused = does.not_refused;
      stored = refl;
      reported = told ∙ sym (does.reports h);
      marked = λ t. subst (λ (r : List WorldReport). IsTrue (list_any is_halt r)) (sym told) (marks t);
      needed = λ t. ap (list_any is_halt) (does.reports false) ∙ needs t;
    }

pub handed_marks : (p : Peer) (e : Event) (h : Bool) → h ≡ true → IsTrue (list_any is_halt (handed p e h).reports)
unfolding handed
handed_marks p e true t = refl
handed_marks p e false t = cc

pub told_marks : (p : Peer) (k : ℕ) (ok : Bool) (e : Event) (h : Bool) → ((probed (edge_on p.edges k) ok).is_down ≡ false → h ≡ false) → h ≡ true → IsTrue (list_any is_halt (told p k ok e h).reports)
unfolding told
told_marks p k ok e h quiet t = by (probed (edge_on p.edges k) ok).is_down refl
  where
    by : (b : Bool) → (probed (edge_on p.edges k) ok).is_down ≡ b →
        IsTrue (list_any is_halt (cond b (handed (with_edge p k (probed (edge_on p.edges k) ok)) e h) (record { peer = with_edge p k (probed (edge_on p.edges k) ok); packets = []; reports = [] })).reports)
    by true d = handed_marks (with_edge p k (probed (edge_on p.edges k) ok)) e h t
    by false d = let no : true ≡ false = sym t ∙ quiet d in absurd (differ no)
      where
        differ : true ≡ false → ⊥
        differ z = cc

pub told_needed : (p : Peer) (k : ℕ) (ok : Bool) (id : List ℕ) (q : Process) → list_any is_halt (told p k ok (EdgeDown id k q) false).reports ≡ false
unfolding told
told_needed p k ok id q = by (probed (edge_on p.edges k) ok).is_down
  where
    by : (b : Bool) →
        list_any is_halt (cond b (handed (with_edge p k (probed (edge_on p.edges k) ok)) (EdgeDown id k q) false) (record { peer = with_edge p k (probed (edge_on p.edges k) ok); packets = []; reports = [] })).reports ≡ false
    by true = goes_quiet (with_edge p k (probed (edge_on p.edges k) ok)) (EdgeDown id k q) (edge_goes p.node id k q)
    by false = refl

-- ---- what the definitions' step does to the peer

behind : {A : Type 0} (xs ys : List A) → drop (length xs) (xs ++ ys) ≡ ys
behind [] ys = refl
behind (x ∷ xs) ys = behind xs ys

did_quiet : (n : Node) (es : List Effect) (acts : List Act) → reports_of (map (entry n) (map Did es ++ acts)) ≡ reports_of (map (entry n) acts)
did_quiet n [] acts = refl
did_quiet n (x ∷ es) acts = did_quiet n es acts

-- acts that report nothing, whatever follows
abbrev pub AreQuiet : Node → List Act → Type 0
AreQuiet n before = (acts : List Act) → reports_of (map (entry n) (before ++ acts)) ≡ reports_of (map (entry n) acts)

pub new_acts : (log : List Entry) (n : Node) (before acts : List Act) → AreQuiet n before →
    reports_of (drop (length log) (log ++ map (entry n) (before ++ acts))) ≡ reports_of (map (entry n) acts)
new_acts log n before acts quiet = ap reports_of (behind log (map (entry n) (before ++ acts))) ∙ quiet acts

-- what is read off a world in which the peer at a place was replaced
pub record Read (w v : World) (i : ℕ) (d : Handed) : Type 0 where
  pub peers : v.peers ≡ slice_set w.peers i d.peer
  pub packets : v.packets ≡ w.packets ++ d.packets
  pub reports : reports_of (drop (length w.log) v.log) ≡ d.reports

reads_halted : (w : World) (i : ℕ) (p : Peer) (before : List Act) → AreQuiet p.node before → Read w (halted w i p before) i (stopped p)
reads_halted w i p before quiet = record { peers = refl; packets = sym (append-nil w.packets); reports = new_acts w.log p.node before (HasHalted ∷ []) quiet }

reads_moved : (w : World) (i : ℕ) (p : Peer) (before : List Act) (o : Outcome) → AreQuiet p.node before → Read w (moved w i p before o) i (went_on p o)
reads_moved w i p before o quiet =
    record {
      peers = refl;
      packets = refl;
      reports = ap (λ acts. reports_of (drop (length w.log) (w.log ++ map (entry p.node) acts))) (append_assoc before (map Did o.effects) (install_acts p.node o.node (configuration_of o.node)))
          ∙ new_acts w.log p.node before (map Did o.effects ++ install_acts p.node o.node (configuration_of o.node)) quiet
          ∙ did_quiet p.node o.effects (install_acts p.node o.node (configuration_of o.node)) ∙ installs p.node o.node (configuration_of o.node);
    }

pub reads_hands : (w : World) (i : ℕ) (p : Peer) (before : List Act) (e : Event) (h : Bool) → AreQuiet p.node before → Read w (hands w i p before e h) i (handed p e h)
unfolding hands handed
reads_hands w i p before e true quiet = reads_halted w i p before quiet
reads_hands w i p before e false quiet = by (node_step p.node e)
  where
    by : (o : Option Outcome) → Read w (settled w i p before o) i (stepped p o)
    by None = reads_halted w i p before quiet
    by (Some o) = reads_moved w i p before o quiet

-- the same for a step that is one of these
pub does_read : (s : StoredWorld) (e : WorldEvent) (i : ℕ) (p : Peer) (f : Bool → Handed) → slice_get (world_of s).peers i ≡ Some p → Names (Some p.node.me) e → event_refusal s e ≡ None →
    ((h : Bool) → Read (world_of s) (world_step (world_of s) (record { event = e; halts = h })) i (f h)) → Does s e i p f
does_read s e i p f at names taken reads = record { at = at; names = names; not_refused = taken; peers = λ h. (reads h).peers; packets = λ h. (reads h).packets; reports = λ h. (reads h).reports }
