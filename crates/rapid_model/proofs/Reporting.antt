-- The reports of a step are those of the node at which its event happens.
use Rattle.std.proofs.Common.{◌≡◌, ℕ, zero, suc, Bool, true, false, cond, not, ◌&&◌, List, [], ◌∷◌, ◌++◌, map, length, drop, slice_get, slice_set, refl, sym, ap, subst, ◌∙◌, Option, Some, None, arith, append_assoc}
use Rattle.std.specs.Prelude.{position, is_some, nat_lt}
use Rattle.std.proofs.lemmas.List.Quantifiers.{position-Some}
use Rattle.std.proofs.lemmas.Option.{slice_get-get_or, same_Some}
use Rattle.std.proofs.lemmas.Bool.{and_parts}
use Rattle.rapid_model.specs.Process.{Process, identifier}
use Rattle.rapid_model.specs.Configuration.{Configuration, configuration_id, is_member}
use Rattle.rapid_model.specs.Apply.{apply}
use Rattle.rapid_model.specs.Cut.{Cut}
use Rattle.rapid_model.specs.Joiner.{Joiner}
use Rattle.rapid_model.specs.Message.{Message, Body, Batch, FastVote, Prepare, Promise, Accept, Accepted, Decision, PreJoin, Reply, JoinRequest, Confirm}
use Rattle.rapid_model.specs.Message as message
use Rattle.rapid_model.specs.Edge.{Edge, probed}
use Rattle.rapid_model.specs.Monitors.{Monitors}
use Rattle.rapid_model.specs.Node as node
use Rattle.rapid_model.specs.Node.{Node, MemberState, fresh_member, seed_node, Phase, Joining, Member, Removed, Halted, Event, EdgeDown, Receive, Effect, Outcome, configuration_of, has_installed, is_halted, is_halted_phase, halt}
use Rattle.rapid_model.specs.Member.{Work}
use Rattle.rapid_model.specs.Receive.{receive_as_joiner, joins_on}
use Rattle.rapid_model.specs.NodeStep.{node_step, settle, settle_at, step_edge_down, step_tick, step_receive, step_leave, install, put_before, phase_in, is_history_full}
use Rattle.rapid_model.specs.World.{World, Peer, Packet, Act, Took, Did, Ticked, Probed, Installed, HasHalted, Crashed, Entry, WorldEvent, Start, Probe, Tick, Deliver, Crash, Leave, MarkedEvent, is_running, has_identifier, has_endpoint, running_under, running_at, peer_at, packet, observed}
use Rattle.rapid_model.specs.WorldStep.{world_step, entry, install_acts, hands, settled, halted, moved, noted, edges_after, started, probes, crashed, deliver, with_found, with_peer, with_edge, edge_on}
use Rattle.rapid_model.specs.Refusal.{refusal}
use Rattle.rapid_model.specs.Run.{WorldReport, ReportInstalled, ReportHalted, reports_of, step_reports}
use Rattle.rapid_model.specs.NodeReports.{installed_report, reports_between, receiver, peer_reports, node_reports}

found : {A : Type 0} (p : A → Bool) (xs : List A) (i : ℕ) (x : A) → position p xs ≡ Some i → slice_get xs i ≡ Some x → p x ≡ true
found p xs i x e h =
    let r = position-Some p xs i x e in
    subst (λ z. p z ≡ true) (same_Some _ _ (sym (slice_get-get_or xs i x r.0) ∙ h)) r.1

-- what stands behind a list
behind : {A : Type 0} (xs ys : List A) → drop (length xs) (xs ++ ys) ≡ ys
behind [] ys = refl
behind (x ∷ xs) ys = behind xs ys

whole : {A : Type 0} (xs : List A) → drop (length xs) xs ≡ []
whole [] = refl
whole (x ∷ xs) = whole xs

-- a place that is there is set
set_there : {A : Type 0} (xs : List A) (i : ℕ) (x y : A) → slice_get xs i ≡ Some x → slice_get (slice_set xs i y) i ≡ Some y
set_there [] i x y h = cc
set_there (z ∷ zs) zero x y h = refl
set_there (z ∷ zs) (suc i) x y h = set_there zs i x y h

-- what a node did reports nothing
did_quiet : (n : Node) (es : List Effect) (acts : List Act) → reports_of (map (entry n) (map Did es ++ acts)) ≡ reports_of (map (entry n) acts)
did_quiet n [] acts = refl
did_quiet n (x ∷ es) acts = did_quiet n es acts

-- ---- a node that does not halt

one_phase : (b : Bool) (x y : Phase) → is_halted_phase x ≡ false → is_halted_phase y ≡ false → is_halted_phase (cond b x y) ≡ false
one_phase true x y h k = h
one_phase false x y h k = k

one_outcome : (b : Bool) (x y : Outcome) → is_halted x.node ≡ false → is_halted y.node ≡ false → is_halted (cond b x y).node ≡ false
one_outcome true x y h k = h
one_outcome false x y h k = k

stays_up : (me : Process) (c : Configuration) → is_halted_phase (phase_in c me) ≡ false
stays_up me c = one_phase (is_member c me) (Member (fresh_member c me)) (Removed c) refl refl

settle_up : (n : Node) (w : Work) (o : Outcome) → settle n w ≡ Some o → is_halted o.node ≡ false
unfolding settle install
settle_up n w o h = by w.decided h
  where
    by : (d : Option Cut) → settle_at n w d ≡ Some o → is_halted o.node ≡ false
    by None e = subst (λ (x : Outcome). is_halted x.node ≡ false) (same_Some _ o e) refl
    by (Some v) e = full (is_history_full n.installed w.state.config) refl
      where
        full : (b : Bool) → is_history_full n.installed w.state.config ≡ b → is_halted o.node ≡ false
        full true same = let none : None ≡ Some o = subst (λ b. cond b None (Some (put_before w.effects (install n w.state v))) ≡ Some o) same e in cc
        full false same =
            let is : Some (put_before w.effects (install n w.state v)) ≡ Some o = subst (λ b. cond b None (Some (put_before w.effects (install n w.state v))) ≡ Some o) same e in
            subst (λ (x : Outcome). is_halted x.node ≡ false) (same_Some _ o is) (stays_up n.me (apply w.state.config v))

joiner_up : (n : Node) (j : Joiner) (b : Body) → is_halted (receive_as_joiner n j b).node ≡ false
unfolding receive_as_joiner
joiner_up n j (Confirm c) = one_outcome (is_member c n.me) (record { node = seed_node c n.me; effects = [] }) (joins_on n j []) refl refl
joiner_up n j (Batch id xs) = refl
joiner_up n j (FastVote id v) = refl
joiner_up n j (Prepare id b) = refl
joiner_up n j (Promise id b vote) = refl
joiner_up n j (Accept id b v) = refl
joiner_up n j (Accepted id b v) = refl
joiner_up n j (Decision id v) = refl
joiner_up n j PreJoin = refl
joiner_up n j (Reply who a) = refl
joiner_up n j (JoinRequest id k) = refl
joiner_up n j (message.Probe id) = refl
joiner_up n j (message.ProbeAck id) = refl
joiner_up n j (message.Leave id k) = refl

step_up : (n : Node) (e : Event) (o : Outcome) → is_halted n ≡ false → node_step n e ≡ Some o → is_halted o.node ≡ false
unfolding node_step
step_up n (EdgeDown id k p) o up h = by n.phase up h
  where
    by : (ph : Phase) → is_halted_phase ph ≡ false → step_edge_down n ph id k p ≡ Some o → is_halted o.node ≡ false
    by (Joining j) u e = subst (λ (x : Outcome). is_halted x.node ≡ false) (same_Some _ o e) up
    by (Member s) u e = settle_up n _ o e
    by (Removed c) u e = subst (λ (x : Outcome). is_halted x.node ≡ false) (same_Some _ o e) up
    by (Halted shown) u e = cc
step_up n node.Tick o up h = by n.phase up h
  where
    by : (ph : Phase) → is_halted_phase ph ≡ false → step_tick n ph ≡ Some o → is_halted o.node ≡ false
    by (Joining j) u e = subst (λ (x : Outcome). is_halted x.node ≡ false) (same_Some _ o e) refl
    by (Member s) u e = settle_up n _ o e
    by (Removed c) u e = subst (λ (x : Outcome). is_halted x.node ≡ false) (same_Some _ o e) up
    by (Halted shown) u e = cc
step_up n (Receive m) o up h = by n.phase up h
  where
    by : (ph : Phase) → is_halted_phase ph ≡ false → step_receive n ph m ≡ Some o → is_halted o.node ≡ false
    by (Joining j) u e = subst (λ (x : Outcome). is_halted x.node ≡ false) (same_Some _ o e) (joiner_up n j m.body)
    by (Member s) u e = settle_up n _ o e
    by (Removed c) u e = subst (λ (x : Outcome). is_halted x.node ≡ false) (same_Some _ o e) up
    by (Halted shown) u e = cc
step_up n node.Leave o up h = by n.phase up h
  where
    by : (ph : Phase) → is_halted_phase ph ≡ false → step_leave n ph ≡ Some o → is_halted o.node ≡ false
    by (Joining j) u e = subst (λ (x : Outcome). is_halted x.node ≡ false) (same_Some _ o e) up
    by (Member s) u e = settle_up n _ o e
    by (Removed c) u e = subst (λ (x : Outcome). is_halted x.node ≡ false) (same_Some _ o e) up
    by (Halted shown) u e = cc

-- ---- the node that makes a step

-- acts that report nothing, whatever follows
abbrev AreQuiet : Node → List Act → Type 0
AreQuiet n before = (acts : List Act) → reports_of (map (entry n) (before ++ acts)) ≡ reports_of (map (entry n) acts)

-- what is new in the log is these acts of a node, the first of which report nothing
new_acts : (log : List Entry) (n : Node) (before acts : List Act) → AreQuiet n before →
    reports_of (drop (length log) (log ++ map (entry n) (before ++ acts))) ≡ reports_of (map (entry n) acts)
new_acts log n before acts quiet = ap reports_of (behind log (map (entry n) (before ++ acts))) ∙ quiet acts

both : (b : Bool) (rs : List WorldReport) → rs ≡ cond b rs rs
both true rs = refl
both false rs = refl

-- what the acts of an install report
pub installs : (n new : Node) (c : Option Configuration) → reports_of (map (entry n) (install_acts n new c)) ≡ cond (has_installed n new) (installed_report n c) []
installs n new None = both (has_installed n new) []
installs n new (Some c) = by (has_installed n new)
  where
    by : (b : Bool) → reports_of (map (entry n) (cond b (Installed c ∷ []) [])) ≡ cond b (ReportInstalled (identifier n.me) c ∷ []) []
    by true = refl
    by false = refl

-- what a running node reports that does not halt
goes_on : (old new : Node) → is_halted old ≡ false → is_halted new ≡ false → reports_between old new ≡ cond (has_installed old new) (installed_report old (configuration_of new)) []
goes_on old new up still =
    ap (λ a. cond (not a && is_halted new) (ReportHalted (identifier old.me) ∷ []) (cond (has_installed old new) (installed_report old (configuration_of new)) [])) up
    ∙ ap (λ b. cond b (ReportHalted (identifier old.me) ∷ []) (cond (has_installed old new) (installed_report old (configuration_of new)) [])) still

-- and what one reports that halts
ends_here : (old : Node) → is_halted old ≡ false → reports_between old (halt old) ≡ ReportHalted (identifier old.me) ∷ []
ends_here old up = ap (λ a. cond (not a && true) (ReportHalted (identifier old.me) ∷ []) (cond (has_installed old (halt old)) (installed_report old (configuration_of (halt old))) [])) up

not_below : (n : ℕ) → nat_lt n n ≡ false
not_below n = Prim.grind arith

-- a node that stays as it is reports nothing
same_quiet : (n : Node) → reports_between n n ≡ []
same_quiet n =
    ap (λ b. cond b (ReportHalted (identifier n.me) ∷ []) (cond (has_installed n n) (installed_report n (configuration_of n)) [])) (never (is_halted n))
    ∙ ap (λ b. cond b (installed_report n (configuration_of n)) []) (not_below (length n.installed))
  where
    never : (b : Bool) → (not b && b) ≡ false
    never true = refl
    never false = refl

-- ---- the peer at a place

-- what the log says of a step is what the peer at the place reports
abbrev Tells : World → ℕ → Peer → World → Type 0
Tells w i p v = reports_of (drop (length w.log) v.log) ≡ peer_reports (Some p) (slice_get v.peers i)

-- a peer in whose place another is put
put_reports : (w : World) (i : ℕ) (p q : Peer) → slice_get w.peers i ≡ Some p → peer_reports (Some p) (slice_get (slice_set w.peers i q) i) ≡ reports_between p.node q.node
put_reports w i p q at = ap (peer_reports (Some p)) (set_there w.peers i p q at)

still_tells : (w : World) (i : ℕ) (p : Peer) → slice_get w.peers i ≡ Some p → Tells w i p w
still_tells w i p at = ap reports_of (whole w.log) ∙ sym (same_quiet p.node) ∙ sym (ap (peer_reports (Some p)) at)

-- an act that reports nothing, if the node stays
quiet_tells : (w : World) (i : ℕ) (p : Peer) (a : Act) (q : Peer) → slice_get w.peers i ≡ Some p → q.node ≡ p.node → AreQuiet p.node (a ∷ []) →
    Tells w i p (record w { peers = slice_set w.peers i q; log = w.log ++ entry p.node a ∷ [] })
quiet_tells w i p a q at same quiet =
    new_acts w.log p.node (a ∷ []) [] quiet ∙ sym (same_quiet p.node) ∙ ap (reports_between p.node) (sym same) ∙ sym (put_reports w i p q at)

halted_tells : (w : World) (i : ℕ) (p : Peer) (es : Monitors) (before : List Act) → slice_get w.peers i ≡ Some p → is_halted p.node ≡ false → AreQuiet p.node before →
    Tells w i p (halted w i (record p { edges = es }) before)
halted_tells w i p es before at up quiet =
    new_acts w.log p.node before (HasHalted ∷ []) quiet ∙ sym (ends_here p.node up) ∙ sym (put_reports w i p (record p { edges = es; node = halt p.node }) at)

moved_tells : (w : World) (i : ℕ) (p : Peer) (es : Monitors) (before : List Act) (o : Outcome) → slice_get w.peers i ≡ Some p → is_halted p.node ≡ false → is_halted o.node ≡ false → AreQuiet p.node before →
    Tells w i p (moved w i (record p { edges = es }) before o)
moved_tells w i p es before o at up still quiet =
    ap (λ acts. reports_of (drop (length w.log) (w.log ++ map (entry p.node) acts))) (append_assoc before (map Did o.effects) (install_acts p.node o.node (configuration_of o.node)))
    ∙ new_acts w.log p.node before (map Did o.effects ++ install_acts p.node o.node (configuration_of o.node)) quiet
    ∙ did_quiet p.node o.effects (install_acts p.node o.node (configuration_of o.node))
    ∙ installs p.node o.node (configuration_of o.node)
    ∙ sym (goes_on p.node o.node up still)
    ∙ sym (put_reports w i p (record p { node = o.node; edges = edges_after (record p { edges = es }) o.node }) at)

hands_tells : (w : World) (i : ℕ) (p : Peer) (es : Monitors) (before : List Act) (e : Event) (halts : Bool) → slice_get w.peers i ≡ Some p → is_halted p.node ≡ false → AreQuiet p.node before →
    Tells w i p (hands w i (record p { edges = es }) before e halts)
unfolding hands
hands_tells w i p es before e true at up quiet = halted_tells w i p es before at up quiet
hands_tells w i p es before e false at up quiet = by (node_step p.node e) refl
  where
    by : (o : Option Outcome) → node_step p.node e ≡ o → Tells w i p (settled w i (record p { edges = es }) before o)
    by None h = halted_tells w i p es before at up quiet
    by (Some o) h = moved_tells w i p es before o at up (step_up p.node e o up h) quiet

-- ---- each event

with_tells : (w : World) (at : Option ℕ) (f : ℕ → Peer → World) → ((i : ℕ) (p : Peer) → at ≡ Some i → slice_get w.peers i ≡ Some p → Tells w i p (f i p)) →
    reports_of (drop (length w.log) (with_peer w at f).log) ≡ peer_reports (peer_at w at) (peer_at (with_peer w at f) at)
with_tells w None f tells = ap reports_of (whole w.log)
with_tells w (Some i) f tells = by (slice_get w.peers i) refl
  where
    by : (o : Option Peer) → slice_get w.peers i ≡ o → reports_of (drop (length w.log) (with_found w i o f).log) ≡ peer_reports o (slice_get (with_found w i o f).peers i)
    by None h = ap reports_of (whole w.log)
    by (Some p) h = tells i p refl h

-- who runs has not halted
runs_up : (p : Peer) (b : Bool) → (is_running p && b) ≡ true → is_halted p.node ≡ false
runs_up p b h = not_so (is_halted p.node) (and_parts (not p.crashed) (not (is_halted p.node)) (and_parts (is_running p) b h).0).1
  where
    not_so : (a : Bool) → not a ≡ true → a ≡ false
    not_so true e = cc
    not_so false e = refl

under_up : (w : World) (id : List ℕ) (i : ℕ) (p : Peer) → running_under w id ≡ Some i → slice_get w.peers i ≡ Some p → is_halted p.node ≡ false
under_up w id i p e h = runs_up p (has_identifier id p) (found (λ q. is_running q && has_identifier id q) w.peers i p e h)

at_up : (w : World) (place : List ℕ) (i : ℕ) (p : Peer) → running_at w place ≡ Some i → slice_get w.peers i ≡ Some p → is_halted p.node ≡ false
at_up w place i p e h = runs_up p (has_endpoint place p) (found (λ q. is_running q && has_endpoint place q) w.peers i p e h)

probes_tells : (w : World) (i : ℕ) (p : Peer) (k : ℕ) (ok halts : Bool) → slice_get w.peers i ≡ Some p → is_halted p.node ≡ false → (o : Option (Configuration × Process)) → Tells w i p (probes w i p o k ok halts)
probes_tells w i p k ok halts at up None = still_tells w i p at
probes_tells w i p k ok halts at up (Some x) = by e.is_down
  where
    e : Edge
    e = probed (edge_on p.edges k) ok

    by : (down : Bool) → Tells w i p (cond down (hands w i (with_edge p k e) (Probed k ok ∷ []) (EdgeDown (configuration_id x.0) k x.1) halts) (noted w i p k ok e))
    by true = hands_tells w i p (slice_set p.edges k (Some e)) (Probed k ok ∷ []) (EdgeDown (configuration_id x.0) k x.1) halts at up (λ acts. refl)
    by false = quiet_tells w i p (Probed k ok) (with_edge p k e) at refl (λ acts. refl)

started_tells : (w v : World) (b : Bool) → v.log ≡ w.log → reports_of (drop (length w.log) (cond b w v).log) ≡ []
started_tells w v true h = ap reports_of (whole w.log)
started_tells w v false h = ap (λ l. reports_of (drop (length w.log) l)) h ∙ ap reports_of (whole w.log)

deliver_tells : (w : World) (halts : Bool) (o : Option Packet) → reports_of (drop (length w.log) (deliver w o halts).log) ≡ peer_reports (peer_at w (receiver w o)) (peer_at (deliver w o halts) (receiver w o))
deliver_tells w halts None = ap reports_of (whole w.log)
deliver_tells w halts (Some x) =
    with_tells w (running_at w x.to) (λ i p. hands w i p (Took x.message ∷ []) (Receive x.message) halts)
    (λ i p e h. hands_tells w i p p.edges (Took x.message ∷ []) (Receive x.message) halts h (at_up w x.to i p e h) (λ acts. refl))

pub nodes_report : (w : World) (m : MarkedEvent) → step_reports w m ≡ node_reports w m
unfolding world_step
nodes_report w m = by m.event m.halts
  where
    by : (e : WorldEvent) (halts : Bool) → step_reports w (record { event = e; halts = halts }) ≡ node_reports w (record { event = e; halts = halts })
    by (Start p seed) halts = started_tells w (started w p seed) (is_some (refusal w (Start p seed))) refl
    by (Probe id k ok) halts =
        with_tells w (running_under w id) (λ i p. probes w i p (observed p k) k ok halts)
        (λ i p e h. probes_tells w i p k ok halts h (under_up w id i p e h) (observed p k))
    by (Tick id) halts =
        with_tells w (running_under w id) (λ i p. hands w i p (Ticked ∷ []) node.Tick halts)
        (λ i p e h. hands_tells w i p p.edges (Ticked ∷ []) node.Tick halts h (under_up w id i p e h) (λ acts. refl))
    by (Deliver k) halts = deliver_tells w halts (packet w k)
    by (Crash id) halts =
        with_tells w (running_under w id) (λ i p. crashed w i p)
        (λ i p e h. quiet_tells w i p Crashed (record p { crashed = true }) h refl (λ acts. refl))
    by (Leave id) halts =
        with_tells w (running_under w id) (λ i p. hands w i p [] node.Leave halts)
        (λ i p e h. hands_tells w i p p.edges [] node.Leave halts h (under_up w id i p e h) (λ acts. refl))
