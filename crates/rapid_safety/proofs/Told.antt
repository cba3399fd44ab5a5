-- What is told in a run: a Confirm names what its sender installed, and a Decision what its sender left, by its cut.
use Rattle.std.proofs.Common.{◌≡◌, ◌⊎◌, inl, inr, ℕ, Bool, true, false, cond, not, ◌+◌, ◌==◌, ◌%◌, List, [], ◌∷◌, ◌++◌, map, refl, sym, ap, subst, ◌∙◌, Option, Some, None, append_assoc, zero, suc, ◌-◌, length}
use Rattle.rapid_safety.proofs.Basics.{flat_map, Result, Ok, Err, drop, find, option_eq, option_map, filter_map-append, slice_get-get_or, cond_both, In, in_split, in_right, in_from, contains_from, same_bytes_decides}
use Rattle.rapid_safety.proofs.Values.{Process, ProcessSet, same_bytes, Cut, Configuration, configuration_id, position_of, is_member, AreMembers, apply, collides, observers_of, observes, rings, Alert, Remove, Ballot, Vote, fast_ballot, item_of, Answer, Safe, EndpointInUse, ConfigurationChanged, TooManyJoiners, Body, Batch, FastVote, Prepare, Promise, Accept, Accepted, Decision, PreJoin, Reply, JoinRequest, Confirm, Probe, caught_up_by, batch_alerts}
use Rattle.rapid_safety.proofs.Parts.{resend, flush, unflushed, after_batch, batch_cut, AcceptorRefusal, accepts, promise_answer, after_promise, after_accept, next_ballot, begun, after_report, accept_cut, HostAnswer, Nothing, Replies, Confirms, Raises, confirms, pre_join, join_request, is_full_for, Joiner, asks_at_tick, requests_from, sent_at_reply}
use Rattle.rapid_safety.proofs.Working.{Node, Decisions, Phase, Joining, Member, Removed, Halted, MemberState, Destination, To, Others, Itself, Effect, Says, Proposes, Outcome, Event, EdgeDown, Receive, member_in, seed_node, configuration_of, Work, still, says, and_then, then_if, current_id, own_place, vote_seen, raise_alert, take_vote, take_accepted, take_accept, send_accept, take_promise, give_promise, take_prepare, cast_vote, propose, take_batch, at_position, clock_moved, aged, vote_again, repeats, send_alerts, sends_batch, is_due, begin_at, recovers, quiet_tick, batch_tick, on_tick, take, decided_in, decision_to, catch_up, answer_to, sends, take_or_catch_up, is_about, receive_as_member, receive_as_joiner, node_step, step_tick, step_receive, step_edge_down, step_leave, leave_to, farewells, question_to, idle, install, put_before, stays_member, settle_at, settle, is_history_full}
use Rattle.rapid_safety.proofs.Worlds.{Installed, World, Peer, Did, Entry, MarkedEvent, install_acts, added, entry, acts_of, run, founded, sent, installed_by, InstallsRise, HasInstalled, IsNext, ConfirmsInstalled, DecisionsInstalled}
use Rattle.rapid_model.specs.Node as node
use Rattle.rapid_safety.proofs.Atoms.{IsAside, message, Lives}
use Rattle.rapid_safety.proofs.NodeWorks.{next_node, install_act}
use Rattle.rapid_safety.proofs.Histories.{Lived}
use Rattle.rapid_safety.proofs.Lived.{get_map, lived_founded, lived_kept}
use Rattle.rapid_safety.proofs.Nodes.{InstalledBy, installed_grows, move_present, Present, present_kept, present_founded, installs_in, new_installs, own_installs, step_installs, EndsIn, Shown, shown_kept, shown_founded, acts_then, MoveKind, member_goes_on, member_installs, joiner_goes_on, joiner_enters, stays_out, kind_of}
use Rattle.rapid_safety.proofs.News.{come_stands, PacketsSaid, sent_kept, none_sent, sent_said, Moves, SaidNow, said_new, act_stands, NodeNew, as_it_was, has_halted, has_started, has_moved, node_new}
use Rattle.rapid_safety.proofs.Steps.{StandsAt, Steps, run_keeps, log_grows}
use Rattle.rapid_safety.proofs.Members.{of_map}

-- ---- each body that effects say

abbrev pub AllSay : (Body → Type 0) → List Effect → Type 0
AllSay P [] = Unit {0}
AllSay P (Says to b ∷ xs) = P b × AllSay P xs
AllSay P (Proposes v ∷ xs) = AllSay P xs

pub all_append : (P : Body → Type 0) (xs ys : List Effect) → AllSay P xs → AllSay P ys → AllSay P (xs ++ ys)
all_append P [] ys h k = k
all_append P (Says to b ∷ xs) ys h k = (h.0, all_append P xs ys h.1 k)
all_append P (Proposes v ∷ xs) ys h k = all_append P xs ys h k

pub all_weaken : (P Q : Body → Type 0) → ((b : Body) → P b → Q b) → (xs : List Effect) → AllSay P xs → AllSay Q xs
all_weaken P Q f [] h = tt
all_weaken P Q f (Says to b ∷ xs) h = (f b h.0, all_weaken P Q f xs h.1)
all_weaken P Q f (Proposes v ∷ xs) h = all_weaken P Q f xs h

pub all_say : (P : Body → Type 0) (xs : List Effect) (to : Destination) (b : Body) → AllSay P xs → In xs (Says to b) → P b
all_say P [] to b h i = absurd i
all_say P (Says d c ∷ xs) to b h (inl e) = let same : c ≡ b = cc in subst P same h.0
all_say P (Proposes v ∷ xs) to b h (inl e) = cc
all_say P (Says d c ∷ xs) to b h (inr i) = all_say P xs to b h.1 i
all_say P (Proposes v ∷ xs) to b h (inr i) = all_say P xs to b h i

all_if : (P : Body → Type 0) (t : Bool) (w u : Work) → AllSay P w.effects → AllSay P u.effects → AllSay P (cond t w u).effects
all_if P t w u h k = cond_both t w u (λ (x : Work). AllSay P x.effects) (λ e. h) (λ e. k)

all_then : (P : Body → Type 0) (w : Work) (f : MemberState → Work) → AllSay P w.effects → ((s : MemberState) → AllSay P (f s).effects) → AllSay P (and_then w f).effects
all_then P w f h k = by w.decided
  where
    by : (o : Option Cut) → AllSay P (then_if w f o).effects
    by (Some v) = h
    by None = all_append P w.effects (f w.state).effects h (k w.state)

-- ---- what is said of a vote

-- neither a Confirm nor a Decision
abbrev pub IsPlain : Body → Type 0
IsPlain (Confirm c) = ⊥
IsPlain (Decision id v) = ⊥
IsPlain b = Unit {0}

abbrev Plain : Work → Type 0
Plain w = AllSay IsPlain w.effects

accept_plain : (s : MemberState) (b : Ballot) (v : Cut) → Plain (take_accept s b v)
unfolding take_accept
accept_plain s b v =
    all_if IsPlain (accepts s.acceptor b) (and_then (says (record s { acceptor = after_accept s.acceptor b v }) Others (Accepted (current_id s) b v)) (λ t. take_accepted t (own_place t) b v)) (still s)
    (all_then IsPlain (says (record s { acceptor = after_accept s.acceptor b v }) Others (Accepted (current_id s) b v)) (λ t. take_accepted t (own_place t) b v) (tt, tt) (λ t. tt)) tt

ask_plain : (s : MemberState) (b : Ballot) (o : Option Cut) → Plain (send_accept s b o)
unfolding send_accept
ask_plain s b None = tt
ask_plain s b (Some v) = all_then IsPlain (says s Others (Accept (current_id s) b v)) (λ t. take_accept t b v) (tt, tt) (λ t. accept_plain t b v)

promise_plain : (s : MemberState) (p : ℕ) (b : Ballot) (vote : Option (Vote Cut)) → Plain (take_promise s p b vote)
unfolding take_promise
promise_plain s p b vote = ask_plain (record s { coordinator = after_report s.coordinator p b vote }) b (accept_cut s.coordinator p b vote s.proposal)

give_plain : (s : MemberState) (from : Process) (b : Ballot) (r : Result (Option (Vote Cut)) AcceptorRefusal) → Plain (give_promise s from b r)
give_plain s from b (Err e) = tt
give_plain s from b (Ok vote) =
    let t : MemberState = record s { acceptor = after_promise s.acceptor b } in
    all_if IsPlain (same_bytes from s.me) (and_then (says t Itself (Promise (current_id s) b vote)) (λ u. take_promise u (own_place u) b vote)) (says t (To (Rattle.rapid_model.specs.Process.endpoint from)) (Promise (current_id s) b vote))
    (all_then IsPlain (says t Itself (Promise (current_id s) b vote)) (λ u. take_promise u (own_place u) b vote) (tt, tt) (λ u. promise_plain u (own_place u) b vote)) (tt, tt)

cast_plain : (s : MemberState) (v : Cut) → Plain (cast_vote s v)
unfolding cast_vote
cast_plain s v =
    let w : Work = says (record (vote_seen s) { acceptor = after_accept s.acceptor fast_ballot v; voted = true }) Others (FastVote (current_id s) v) in
    all_if IsPlain (accepts s.acceptor fast_ballot) (and_then w (λ t. take_vote t (own_place t) v)) (still s) (all_then IsPlain w (λ t. take_vote t (own_place t) v) (tt, tt) (λ t. tt)) tt

propose_plain : (s : MemberState) (o : Option Cut) → Plain (propose s o)
unfolding propose
propose_plain s None = tt
propose_plain s (Some v) = all_then IsPlain (record { state = record s { proposal = Some v }; effects = Proposes v ∷ []; decided = None }) (λ t. cast_vote t v) tt (λ t. cast_plain t v)

again_plain : (s : MemberState) (o : Option Cut) → Plain (vote_again s o)
again_plain s None = tt
again_plain s (Some v) = (tt, tt)

repeats_plain : (s : MemberState) → Plain (repeats s)
unfolding repeats
repeats_plain s =
    let t : MemberState = record s { outbox = resend s.outbox } in
    all_if IsPlain (s.tick % 20 == 0) (cond s.voted (vote_again t s.proposal) (still t)) (still s) (all_if IsPlain s.voted (vote_again t s.proposal) (still t) (again_plain t s.proposal) tt) tt

alerts_plain : (s : MemberState) (xs : List Alert) → Plain (send_alerts s xs)
unfolding send_alerts take_batch
alerts_plain s [] = tt
alerts_plain s (a ∷ xs) =
    all_then IsPlain (says (record s { outbox = flush s.outbox }) Others (Batch (current_id s) (map item_of (a ∷ xs)))) (λ t. take_batch t (a ∷ xs)) (tt, tt) (λ t. propose_plain (record t { detector = after_batch (observers_of t.config) t.detector (a ∷ xs) }) (batch_cut (observers_of t.config) t.detector (a ∷ xs)))

begin_plain : (s : MemberState) (o : Option Ballot) → Plain (begin_at s o)
unfolding take_prepare
begin_plain s None = tt
begin_plain s (Some b) =
    all_then IsPlain (says (record s { coordinator = begun s.coordinator b }) Others (Prepare (current_id s) b)) (λ t. take_prepare t t.me b) (tt, tt) (λ t. give_plain t t.me b (promise_answer t.acceptor b))

recovers_plain : (s : MemberState) → Plain (recovers s)
unfolding recovers
recovers_plain s = all_if IsPlain (is_due s s.first_vote) (begin_at s (next_ballot s.coordinator s.acceptor.rnd)) (still s) (begin_plain s (next_ballot s.coordinator s.acceptor.rnd)) tt

tick_plain : (s : MemberState) → Plain (on_tick s)
unfolding on_tick batch_tick quiet_tick sends_batch
tick_plain s =
    all_then IsPlain (and_then (repeats (aged (clock_moved s))) sends_batch) recovers
    (all_then IsPlain (repeats (aged (clock_moved s))) sends_batch (repeats_plain (aged (clock_moved s))) (λ t. alerts_plain t (unflushed t.outbox))) recovers_plain

at_plain : (s : MemberState) (o : Option ℕ) (f : ℕ → Work) → ((p : ℕ) → Plain (f p)) → Plain (at_position s o f)
at_plain s None f h = tt
at_plain s (Some p) f h = h p

take_plain : (s : MemberState) (from : Process) (m : Body) → Plain (take s from m)
unfolding take take_prepare take_batch
take_plain s from (Batch id xs) = propose_plain (record s { detector = after_batch (observers_of s.config) s.detector (batch_alerts from id xs) }) (batch_cut (observers_of s.config) s.detector (batch_alerts from id xs))
take_plain s from (FastVote id v) = at_plain s (position_of s.config from) (λ p. take_vote s p v) (λ p. tt)
take_plain s from (Prepare id b) = all_if IsPlain (option_eq (◌==◌) (position_of s.config from) (Some b.position)) (take_prepare s from b) (still s) (give_plain s from b (promise_answer s.acceptor b)) tt
take_plain s from (Promise id b vote) = at_plain s (position_of s.config from) (λ p. take_promise s p b vote) (λ p. promise_plain s p b vote)
take_plain s from (Accept id b v) = all_if IsPlain (option_eq (◌==◌) (position_of s.config from) (Some b.position)) (take_accept s b v) (still s) (accept_plain s b v) tt
take_plain s from (Accepted id b v) = at_plain s (position_of s.config from) (λ p. take_accepted s p b v) (λ p. tt)
take_plain s from b = tt

leaves_plain : (s : MemberState) (ks : List ℕ) → AllSay IsPlain (flat_map (λ k. leave_to s k ((observers_of s.config).observer k s.me)) ks)
leaves_plain s [] = tt
leaves_plain s (k ∷ ks) = all_append IsPlain (leave_to s k ((observers_of s.config).observer k s.me)) _ (by ((observers_of s.config).observer k s.me)) (leaves_plain s ks)
  where
    by : (o : Option Process) → AllSay IsPlain (leave_to s k o)
    by None = tt
    by (Some p) = (tt, tt)

farewells_plain : (s : MemberState) → AllSay IsPlain (farewells s)
unfolding farewells
farewells_plain s = leaves_plain s (rings (observers_of s.config))

-- ---- what is told to one endpoint

-- a Confirm is of this configuration, and a Decision is one of these
abbrev pub MayTell : Configuration → Decisions → Body → Type 0
MayTell c ds (Confirm d) = c ≡ d
MayTell c ds (Decision id v) = In ds (id, v)
MayTell c ds b = Unit {0}

plain_may : (c : Configuration) (ds : Decisions) (b : Body) → IsPlain b → MayTell c ds b
plain_may c ds (Confirm d) h = absurd h
plain_may c ds (Decision id v) h = absurd h
plain_may c ds b h = tt

plain_tells : (c : Configuration) (ds : Decisions) (xs : List Effect) → AllSay IsPlain xs → AllSay (MayTell c ds) xs
plain_tells c ds = all_weaken IsPlain (MayTell c ds) (plain_may c ds)

-- the decision that is found for an identifier is kept under it
found_in : (id : List ℕ) (ds : Decisions) (v : Cut) → decided_in ds id ≡ Some v → In ds (id, v)
found_in id [] v h = cc
found_in id (d ∷ ds) v h = by (same_bytes id d.0) refl h (found_in id ds v)
  where
    by : (t : Bool) → same_bytes id d.0 ≡ t → option_map (λ x. x.1) (cond t (Some d) (find (λ x. same_bytes id x.0) ds)) ≡ Some v → (decided_in ds id ≡ Some v → In ds (id, v)) → In (d ∷ ds) (id, v)
    by true e k f =
        let first : d.0 ≡ id = sym ((same_bytes_decides id d.0).0 e) in
        let second : d.1 ≡ v = cc in
        inl (λ i. (first i, second i))
    by false e k f = inr (f k)

decision_tells : (c : Configuration) (ds : Decisions) (from : Process) (id : List ℕ) (o : Option Cut) → decided_in ds id ≡ o → AllSay (MayTell c ds) (decision_to from id o)
decision_tells c ds from id None e = tt
decision_tells c ds from id (Some v) e = (found_in id ds v e, tt)

catch_tells : (c : Configuration) (ds : Decisions) (from : Process) (o : Option (List ℕ)) → AllSay (MayTell c ds) (catch_up ds from o)
catch_tells c ds from None = tt
catch_tells c ds from (Some id) = decision_tells c ds from id (decided_in ds id) refl

-- the answer of a host confirms at most this configuration
abbrev ConfirmsOnly : Configuration → HostAnswer → Type 0
ConfirmsOnly c (Confirms d) = c ≡ d
ConfirmsOnly c a = Unit {0}

answer_tells : (c : Configuration) (ds : Decisions) (j : Process) (a : HostAnswer) → ConfirmsOnly c a → AllSay (MayTell c ds) (answer_to j a)
answer_tells c ds j Nothing h = tt
answer_tells c ds j (Replies r) h = (tt, tt)
answer_tells c ds j (Confirms d) h = (h, tt)
answer_tells c ds j Raises h = tt

pre_join_only : (c : Configuration) (pending : ProcessSet) (j : Process) → ConfirmsOnly c (pre_join c pending j)
unfolding pre_join
pre_join_only c pending j =
    cond_both (is_member c j) _ _ (ConfirmsOnly c) (λ e. refl)
    (λ e. cond_both (collides c.members j) _ _ (ConfirmsOnly c) (λ e. tt) (λ e. cond_both (is_full_for pending j) _ _ (ConfirmsOnly c) (λ e. tt) (λ e. tt)))

request_only : (c : Configuration) (me : Process) (pending : ProcessSet) (j : Process) (id : List ℕ) (k : ℕ) → ConfirmsOnly c (join_request c me pending j id k)
unfolding join_request
request_only c me pending j id k =
    cond_both (is_member c j) _ _ (ConfirmsOnly c) (λ e. refl)
    (λ e. cond_both (not (same_bytes id (configuration_id c))) _ _ (ConfirmsOnly c) (λ e. tt)
    (λ e. cond_both (collides c.members j) _ _ (ConfirmsOnly c) (λ e. tt)
    (λ e. cond_both (not (observes (observers_of c) me k j)) _ _ (ConfirmsOnly c) (λ e. tt) (λ e. cond_both (is_full_for pending j) _ _ (ConfirmsOnly c) (λ e. tt) (λ e. tt)))))

module _ (s : MemberState) (ds : Decisions) where
  abbrev Tells : Work → Type 0
  Tells w = AllSay (MayTell s.config ds) w.effects

  either_tells : (from : Process) (m : Body) → Tells (take_or_catch_up ds s from m)
  either_tells from m =
      all_if (MayTell s.config ds) (is_about (current_id s) (caught_up_by m)) (take s from m) (sends s (catch_up ds from (caught_up_by m)))
      (plain_tells s.config ds (take s from m).effects (take_plain s from m)) (catch_tells s.config ds from (caught_up_by m))

  pub member_tells : (from : Process) (m : Body) → Tells (receive_as_member ds s from m)
  unfolding receive_as_member
  member_tells from PreJoin = answer_tells s.config ds from (pre_join s.config s.pending from) (pre_join_only s.config s.pending from)
  member_tells from (JoinRequest id k) = answer_tells s.config ds from (join_request s.config s.me s.pending from id k) (request_only s.config s.me s.pending from id k)
  member_tells from (Decision id v) = all_if (MayTell s.config ds) (same_bytes id (current_id s)) (take s from (Decision id v)) (still s) (plain_tells s.config ds (take s from (Decision id v)).effects (take_plain s from (Decision id v))) tt
  member_tells from (Probe id) = (tt, either_tells from (Probe id))
  member_tells from m = either_tells from m

-- ---- a joiner asks, and says nothing else

abbrev IsQuestion : Body → Type 0
IsQuestion PreJoin = Unit {0}
IsQuestion (JoinRequest id k) = Unit {0}
IsQuestion b = ⊥

requests_ask : (k : ℕ) (id : List ℕ) (os : List Process) → AllSay IsQuestion (map (λ x. Says (To x.0) x.1) (requests_from k id os))
requests_ask k id [] = tt
requests_ask k id (o ∷ os) = (tt, requests_ask (k + 1) id os)

reply_asks : (b : Bool) (j : Joiner) (a : Answer) → AllSay IsQuestion (cond b (map (λ x. Says (To x.0) x.1) (sent_at_reply j a)) [])
reply_asks true j (Safe id os) = requests_ask 0 id os
reply_asks true j EndpointInUse = tt
reply_asks true j ConfigurationChanged = (tt, tt)
reply_asks true j TooManyJoiners = tt
reply_asks false j a = tt

question_asks : (o : Option (List ℕ)) → AllSay IsQuestion (question_to o)
question_asks None = tt
question_asks (Some e) = (tt, tt)

joiner_asks : (n : Node) (j : Joiner) (b : Body) → AllSay IsQuestion (receive_as_joiner n j b).effects
unfolding receive_as_joiner
joiner_asks n j (Reply who a) = reply_asks (same_bytes who n.me) j a
joiner_asks n j (Confirm c) = cond_both (is_member c n.me) _ _ (λ (o : Outcome). AllSay IsQuestion o.effects) (λ e. tt) (λ e. tt)
joiner_asks n j b = tt

-- ---- a node's step

-- a Confirm is of the configuration of the member or of one that it installs now, and a Decision is one that it keeps
abbrev pub KnowsOf : Node → Outcome → Body → Type 0
KnowsOf n o (Confirm c) = (member_in n ≡ Some c) ⊎ In (install_acts n o.node (configuration_of o.node)) (Installed c)
KnowsOf n o (Decision id v) = In n.decisions (id, v)
KnowsOf n o b = Unit {0}

-- and who is no member says nothing of a vote
abbrev pub IsTold : Node → Outcome → Body → Type 0
IsTold n o b = KnowsOf n o b × (IsAside b ⊎ ((c : Configuration) × (member_in n ≡ Some c)))

question_told : (n : Node) (o : Outcome) (b : Body) → IsQuestion b → IsTold n o b
question_told n o PreJoin h = (tt, inl tt)
question_told n o (JoinRequest id k) h = (tt, inl tt)
question_told n o b h = absurd h

may_told : (n : Node) (o : Outcome) (c : Configuration) → member_in n ≡ Some c → (b : Body) → MayTell c n.decisions b → IsTold n o b
may_told n o c m (Confirm d) h = (inl (m ∙ ap Some h), inr (c, m))
may_told n o c m (Decision id v) h = (h, inr (c, m))
may_told n o c m b h = (tt, inr (c, m))

-- what pending joiners get
confirms_tell : (next : Configuration) (js : List Process) → AllSay (MayTell next []) (flat_map (λ (x : Process × HostAnswer). answer_to x.0 x.1) (map (λ j. (j, cond (is_member next j) (Confirms next) (Replies ConfigurationChanged))) js))
confirms_tell next [] = tt
confirms_tell next (j ∷ js) =
    all_append (MayTell next []) (answer_to j (cond (is_member next j) (Confirms next) (Replies ConfigurationChanged))) _ (answer_tells next [] j _ (cond_both (is_member next j) _ _ (ConfirmsOnly next) (λ e. refl) (λ e. tt))) (confirms_tell next js)

all_confirms : (next : Configuration) (pending : ProcessSet) → AllSay (MayTell next []) (flat_map (λ (x : Process × HostAnswer). answer_to x.0 x.1) (confirms next pending))
unfolding confirms
all_confirms next pending = confirms_tell next _

next_told : (n : Node) (o : Outcome) (c next : Configuration) → member_in n ≡ Some c → In (install_acts n o.node (configuration_of o.node)) (Installed next) → (b : Body) → MayTell next [] b → IsTold n o b
next_told n o c next m i (Confirm d) h = (inr (subst (λ x. In (install_acts n o.node (configuration_of o.node)) (Installed x)) h i), inr (c, m))
next_told n o c next m i (Decision id v) h = absurd h
next_told n o c next m i b h = (tt, inr (c, m))

module _ (n : Node) (s : MemberState) (member : n.phase ≡ Member s) where
  in_config : member_in n ≡ Some s.config
  in_config = ap Rattle.rapid_model.specs.Node.member_config member

  settle_told : (w : Work) → AllSay (MayTell s.config n.decisions) w.effects → (d : Option Cut) (o : Outcome) → settle_at n w d ≡ Some o → AllSay (IsTold n o) o.effects
  settle_told w h None o e =
      let out : Outcome = stays_member n w in
      let same : out ≡ o = cc in
      subst (λ (x : Outcome). AllSay (IsTold n x) x.effects) same (all_weaken _ (IsTold n out) (may_told n out s.config in_config) w.effects h)
  settle_told w h (Some v) o e = by (is_history_full n.installed w.state.config) e
    where
      by : (b : Bool) → cond b None (Some (put_before w.effects (install n w.state v))) ≡ Some o → AllSay (IsTold n o) o.effects
      by true k = cc
      by false k =
          let next : Configuration = apply w.state.config v in
          let conf : List Effect = flat_map (λ (x : Process × HostAnswer). answer_to x.0 x.1) (confirms next w.state.pending) in
          let out : Outcome = record { node = next_node n w.state.config v; effects = w.effects ++ conf } in
          let same : out ≡ o = unfold install in cc in
          let here : In (install_acts n out.node (configuration_of out.node)) (Installed next) = subst (λ l. In l (Installed next)) (sym (install_act n w.state.config v)) (inl refl) in
          subst (λ (x : Outcome). AllSay (IsTold n x) x.effects) same
          (all_append (IsTold n out) w.effects conf (all_weaken _ (IsTold n out) (may_told n out s.config in_config) w.effects h)
          (all_weaken _ (IsTold n out) (next_told n out s.config next in_config here) conf (all_confirms next w.state.pending)))

  settled_told : (w : Work) → AllSay (MayTell s.config n.decisions) w.effects → (o : Outcome) → settle n w ≡ Some o → AllSay (IsTold n o) o.effects
  unfolding settle
  settled_told w h o e = settle_told w h w.decided o e

from_questions : (n : Node) (x o : Outcome) → AllSay IsQuestion x.effects → Some x ≡ Some o → AllSay (IsTold n o) o.effects
from_questions n x o h e = let s : x ≡ o = cc in subst (λ (z : Outcome). AllSay (IsTold n z) z.effects) s (all_weaken IsQuestion (IsTold n x) (question_told n x) x.effects h)

told_by : (n : Node) (ph : Phase) (e : Event) (o : Outcome) → n.phase ≡ ph → node_step n e ≡ Some o → AllSay (IsTold n o) o.effects
unfolding node_step
told_by n (Member s) (EdgeDown id k p) o at h = settled_told n s at (still (raise_alert s (record { observer = s.me; subject = p; ring = k; kind = Remove; config = id }))) tt o (subst (λ (x : Phase). step_edge_down n x id k p ≡ Some o) at h)
told_by n (Member s) node.Tick o at h = settled_told n s at (on_tick s) (plain_tells s.config n.decisions (on_tick s).effects (tick_plain s)) o (subst (λ (x : Phase). step_tick n x ≡ Some o) at h)
told_by n (Member s) (Receive m) o at h = settled_told n s at (receive_as_member n.decisions s m.sender m.body) (member_tells s n.decisions m.sender m.body) o (subst (λ (x : Phase). step_receive n x m ≡ Some o) at h)
told_by n (Member s) node.Leave o at h = settled_told n s at (sends s (farewells s)) (plain_tells s.config n.decisions (farewells s) (farewells_plain s)) o (subst (λ (x : Phase). step_leave n x ≡ Some o) at h)
told_by n (Joining j) (EdgeDown id k p) o at h = from_questions n (idle n) o tt (subst (λ (x : Phase). step_edge_down n x id k p ≡ Some o) at h)
told_by n (Joining j) node.Tick o at h = from_questions n _ o (question_asks (asks_at_tick j)) (subst (λ (x : Phase). step_tick n x ≡ Some o) at h)
told_by n (Joining j) node.Leave o at h = from_questions n (idle n) o tt (subst (λ (x : Phase). step_leave n x ≡ Some o) at h)
told_by n (Joining j) (Receive m) o at h = from_questions n _ o (joiner_asks n j m.body) (subst (λ (x : Phase). step_receive n x m ≡ Some o) at h)
told_by n (Removed c) (EdgeDown id k p) o at h = from_questions n (idle n) o tt (subst (λ (x : Phase). step_edge_down n x id k p ≡ Some o) at h)
told_by n (Removed c) node.Tick o at h = from_questions n (idle n) o tt (subst (λ (x : Phase). step_tick n x ≡ Some o) at h)
told_by n (Removed c) node.Leave o at h = from_questions n (idle n) o tt (subst (λ (x : Phase). step_leave n x ≡ Some o) at h)
told_by n (Removed c) (Receive m) o at h =
    let g = subst (λ (x : Phase). step_receive n x m ≡ Some o) at h in
    let out : Outcome = record { node = n; effects = catch_up n.decisions m.sender (caught_up_by m.body) } in
    let same : out ≡ o = cc in
    subst (λ (z : Outcome). AllSay (IsTold n z) z.effects) same (removed_told out (caught_up_by m.body))
  where
    decision_told : (x : Outcome) (id : List ℕ) (d : Option Cut) → decided_in n.decisions id ≡ d → AllSay (IsTold n x) (decision_to m.sender id d)
    decision_told x id None e = tt
    decision_told x id (Some v) e = ((found_in id n.decisions v e, inl tt), tt)

    removed_told : (x : Outcome) (about : Option (List ℕ)) → AllSay (IsTold n x) (catch_up n.decisions m.sender about)
    removed_told x None = tt
    removed_told x (Some id) = decision_told x id (decided_in n.decisions id) refl
told_by n (Halted c) (EdgeDown id k p) o at h = from_questions n (idle n) o tt (subst (λ (x : Phase). step_edge_down n x id k p ≡ Some o) at h)
told_by n (Halted c) node.Tick o at h = from_questions n (idle n) o tt (subst (λ (x : Phase). step_tick n x ≡ Some o) at h)
told_by n (Halted c) node.Leave o at h = from_questions n (idle n) o tt (subst (λ (x : Phase). step_leave n x ≡ Some o) at h)
told_by n (Halted c) (Receive m) o at h = from_questions n (idle n) o tt (subst (λ (x : Phase). step_receive n x m ≡ Some o) at h)

-- what a node tells in a step
pub step_tells : (n : Node) (e : Event) (o : Outcome) → node_step n e ≡ Some o → AllSay (IsTold n o) o.effects
step_tells n e o = told_by n n.phase e o refl

-- ---- what is told in a run: a Confirm names what its sender installed, and a Decision what its sender left, by its
-- cut

-- ---- Confirms

unfoldable pub Confirmed : World → Type 0
Confirmed w = (e : Entry) (to : Destination) (c : Configuration) → In w.log e → e.act ≡ Did (Says to (Confirm c)) → InstalledBy w.log e.who c

pub confirmed_kept : (w v : World) → Steps w v → Present w → Confirmed w → Confirmed v
unfolding Confirmed
confirmed_kept w v s k old e to c h is = elim (said_new w v s e to (Confirm c) h is) [ inl x ↦ installed_grows w v s e.who c (old e to c x is) | inr x ↦ by x ]
  where
    by : SaidNow w v e to (Confirm c) → InstalledBy v.log e.who c
    by x =
        let m = x.move in
        let who : m.peer.node.me ≡ e.who = ap (λ (y : Entry). y.who) x.by in
        elim (all_say (IsTold m.peer.node m.outcome) m.outcome.effects to (Confirm c) (step_tells m.peer.node m.event m.outcome m.steps) x.effect).0 [
          | inl at ↦ subst (λ p. InstalledBy v.log p c) who (installed_grows w v s m.peer.node.me c (move_present w v m c k at))
          | inr i ↦ (entry m.peer.node (Installed c), act_stands w v m (Installed c) (in_right (m.before ++ map Did m.outcome.effects) _ _ i), who, refl)
        ]

-- ---- Decisions

pub in_drop : {A : Type 0} (n : ℕ) (xs : List A) (x : A) → In (drop n xs) x → In xs x
in_drop zero xs x h = h
in_drop (suc n) [] x h = h
in_drop (suc n) (y ∷ ys) x h = inr (in_drop n ys x h)

-- what holds of who left a configuration by a cut, and is kept
module _ (Q : World → Process → Configuration → Cut → Type 0) where
  abbrev pub Leaves : World → Process → List ℕ → Cut → Type 0
  Leaves w p id u = (c : Configuration) × (configuration_id c ≡ id) × Q w p c u

  abbrev pub Grows : World → World → Type 0
  Grows w v = (p : Process) (c : Configuration) (u : Cut) → Q w p c u → Q v p c u

  pub record Told (w : World) : Type 0 where
    pub kept : (i : ℕ) (p : Peer) (id : List ℕ) (u : Cut) → StandsAt w i p → In p.node.decisions (id, u) → Leaves w p.node.me id u
    pub said : (e : Entry) (to : Destination) (id : List ℕ) (u : Cut) → In w.log e → e.act ≡ Did (Says to (Decision id u)) → Leaves w e.who id u

  more : (w v : World) → Grows w v → (p : Process) (id : List ℕ) (u : Cut) → Leaves w p id u → Leaves v p id u
  more w v g p id u h = (h.0, h.1, g p h.0 u h.2)

  -- the decisions of the node that makes a step
  move_kept : (w v : World) (m : Moves w v) → Told w → (id : List ℕ) (u : Cut) → In m.peer.node.decisions (id, u) → Leaves w m.peer.node.me id u
  move_kept w v m k id u h =
      let s = come_stands w m.place m.peer m.before m.event m.comes in
      subst (λ (n : Node). In n.decisions (id, u) → Leaves w n.me id u) s.2 (k.kept m.place s.0 id u s.1) h

  pub said_next : (w v : World) → Steps w v → Grows w v → Told w → (e : Entry) (to : Destination) (id : List ℕ) (u : Cut) → In v.log e → e.act ≡ Did (Says to (Decision id u)) → Leaves v e.who id u
  said_next w v s g k e to id u h is = more w v g e.who id u (elim (said_new w v s e to (Decision id u) h is) [ inl x ↦ k.said e to id u x is | inr x ↦ by x ])
    where
      by : SaidNow w v e to (Decision id u) → Leaves w e.who id u
      by x =
          let m = x.move in
          subst (λ p. Leaves w p id u) (ap (λ (y : Entry). y.who) x.by)
          (move_kept w v m k id u (all_say (IsTold m.peer.node m.outcome) m.outcome.effects to (Decision id u) (step_tells m.peer.node m.event m.outcome m.steps) x.effect).0)

  -- what holds if a step installs the next configuration
  abbrev pub Begins : World → World → Type 0
  Begins w v =
      (m : Moves w v) (s : MemberState) (heard : List Rattle.rapid_model.specs.Message.Message) (t : MemberState) (u : Cut) → m.peer.node.phase ≡ Member s →
      Lives s.config m.peer.node.me (acts_then w v m s.config) heard t (Some u) → m.outcome.node ≡ next_node m.peer.node s.config u → Q v m.peer.node.me s.config u

  abbrev KeptBy : World → Node → Type 0
  KeptBy v n = (id : List ℕ) (u : Cut) → In n.decisions (id, u) → Leaves v n.me id u

  moved_kept : (w v : World) → Grows w v → Begins w v → Told w → (m : Moves w v) (n : Node) → m.outcome.node ≡ n → MoveKind w v m n → KeptBy v n
  moved_kept w v g new k m _ is (member_goes_on s t at same) id u h = more w v g m.peer.node.me id u (move_kept w v m k id u h)
  moved_kept w v g new k m _ is (joiner_goes_on j i at) id u h = more w v g m.peer.node.me id u (move_kept w v m k id u h)
  moved_kept w v g new k m _ is (joiner_enters j from c at said member) id u h = absurd h
  moved_kept w v g new k m _ is (stays_out none) id u h = more w v g m.peer.node.me id u (move_kept w v m k id u h)
  moved_kept w v g new k m _ is (member_installs s heard t x at life) id u h =
      elim (in_split m.peer.node.decisions ((configuration_id s.config, x) ∷ []) (id, u) (in_drop (length (m.peer.node.decisions ++ (configuration_id s.config, x) ∷ []) - 64) _ (id, u) h)) [
        | inl old ↦ more w v g m.peer.node.me id u (move_kept w v m k id u old)
        | inr now ↦ elim now [
          | inl e ↦ (s.config, ap (λ (y : List ℕ × Cut). y.0) e, subst (Q v m.peer.node.me s.config) (ap (λ (y : List ℕ × Cut). y.1) e) (new m s heard t x at life is))
          | inr n ↦ absurd n
        ]
      ]

  node_kept : (w v : World) → Lived w → PacketsSaid w → Grows w v → Begins w v → Told w → (i : ℕ) (n : Node) → NodeNew w v i n → KeptBy v n
  node_kept w v lived said g new k i n (as_it_was q at same) = subst (KeptBy v) same (λ id u h. more w v g q.node.me id u (k.kept i q id u at h))
  node_kept w v lived said g new k i n (has_halted q at same) = subst (KeptBy v) same (λ id u h. more w v g q.node.me id u (k.kept i q id u at h))
  node_kept w v lived said g new k i n (has_started me seed same) = subst (KeptBy v) same (λ id u h. absurd h)
  node_kept w v lived said g new k i n (has_moved m same) = subst (KeptBy v) same (moved_kept w v g new k m m.outcome.node refl (kind_of w v m lived said))

  pub told_kept : (w v : World) → Steps w v → Lived w → PacketsSaid w → Grows w v → Begins w v → Told w → Told v
  told_kept w v s lived said g new k =
      record {
        kept = λ i p id u at h. node_kept w v lived said g new k i p.node (node_new w v s i p at) id u h;
        said = said_next w v s g k;
      }

  pub told_founded : (c : Configuration) → Told (founded c)
  told_founded c =
      record {
        kept = λ i p id u at h. let x = get_map (λ z. added (seed_node c z)) c.members i p at in absurd (subst (λ (z : Peer). In z.node.decisions (id, u)) x.2 h);
        said = λ e to id u h is. let r = of_map _ c.members e h in absurd (let z : Installed c ≡ Did (Says to (Decision id u)) = ap (λ (x : Entry). x.act) r.2 ∙ is in cc);
      }

-- ---- in every run

-- p left c for d
abbrev pub LeftFor : List Entry → Process → Configuration → Configuration → Type 0
LeftFor log p c d = IsNext (installs_in log p) c d

-- p left c for what the cut makes of it
abbrev pub WentOn : World → Process → Configuration → Cut → Type 0
WentOn w p c u = LeftFor w.log p c (apply c u)

left_grows : (w v : World) → Steps w v → (p : Process) (c d : Configuration) → LeftFor w.log p c d → LeftFor v.log p c d
left_grows w v s p c d h =
    let g = log_grows w v s in (
      h.0,
      h.1 ++ installs_in g.0 p,
      ap (λ l. installs_in l p) g.1 ∙ filter_map-append (installed_by p) w.log g.0 ∙ ap (λ l. l ++ installs_in g.0 p) h.2 ∙ append_assoc h.0 (c ∷ d ∷ h.1) (installs_in g.0 p),
    )

went_on : (w v : World) → Steps w v → Shown w → Begins WentOn w v
went_on w v s shown m t heard x u at life is =
    let n = m.peer.node in
    let q = come_stands w m.place m.peer m.before m.event m.comes in
    let old : (ys : List Configuration) × (installs_in w.log n.me ≡ ys ++ t.config ∷ []) = subst (EndsIn (installs_in w.log n.me)) at (subst (λ (z : Node). EndsIn (installs_in w.log z.me) z.phase) q.2 (shown m.place q.0 q.1).ends) in
    let new : new_installs (acts_of m.before n m.outcome) ≡ apply t.config u ∷ [] =
    step_installs w m.place m.peer m.before m.event m.outcome m.comes
    ∙ ap (λ (z : Node). new_installs (install_acts n z (configuration_of z))) is ∙ ap new_installs (install_act n t.config u) in (
      old.0,
      [],
      ap (λ (z : World). installs_in z.log n.me) m.is ∙ filter_map-append (installed_by n.me) w.log _ ∙ ap (λ l. installs_in w.log n.me ++ l) (own_installs n n.me refl (acts_of m.before n m.outcome) ∙ new)
          ∙ ap (λ l. l ++ apply t.config u ∷ []) old.1 ∙ append_assoc old.0 (t.config ∷ []) (apply t.config u ∷ []),
    )

-- what holds of every run and is needed below
pub record Histories (w : World) : Type 0 where
  pub lived : Lived w
  pub present : Present w
  pub said : PacketsSaid w
  pub shown : Shown w
  pub confirmed : Confirmed w
  pub told : Told WentOn w

pub histories_kept : (w v : World) → Steps w v → Histories w → Histories v
histories_kept w v s k =
    record {
      lived = lived_kept w v s k.lived;
      present = present_kept w v s (shown_kept w v s k.lived k.said k.shown) k.present;
      said = sent_kept w v s k.said;
      shown = shown_kept w v s k.lived k.said k.shown;
      confirmed = confirmed_kept w v s k.present k.confirmed;
      told = told_kept WentOn w v s k.lived k.said (λ p c u h. left_grows w v s p c (apply c u) h) (went_on w v s k.shown) k.told;
    }

none_confirmed : (c : Configuration) → Confirmed (founded c)
unfolding Confirmed
none_confirmed c e to d h is = let r = of_map _ c.members e h in absurd (let z : Installed c ≡ Did (Says to (Confirm d)) = ap (λ (x : Entry). x.act) r.2 ∙ is in cc)

pub histories_founded : (c : Configuration) → AreMembers c.members → Histories (founded c)
histories_founded c are =
    record {
      lived = lived_founded c are;
      present = present_founded c are;
      said = none_sent c;
      shown = shown_founded c are;
      confirmed = none_confirmed c;
      told = told_founded WentOn c;
    }

pub histories_run : (c : Configuration) (es : List MarkedEvent) → AreMembers c.members → Histories (run es (founded c))
histories_run c es are = run_keeps Histories histories_kept es (founded c) (histories_founded c are)

pub installs_rise : (c : Configuration) (es : List MarkedEvent) → AreMembers c.members → InstallsRise (run es (founded c))
installs_rise c es are p there =
    let w = run es (founded c) in
    ((histories_run c es are).shown there.0 p (slice_get-get_or w.peers there.0 p there.1 ∙ ap Some there.2)).rises

pub present_run : (c : Configuration) (es : List MarkedEvent) → AreMembers c.members → Present (run es (founded c))
present_run c es are = (histories_run c es are).present

has_installed_by : (w : World) (p : Process) (c : Configuration) → InstalledBy w.log p c → HasInstalled w p c
has_installed_by w p c h = (h.0, contains_from w.log h.0 h.1, h.2, h.3)

pub confirms_name_installed : (c : Configuration) (es : List MarkedEvent) → AreMembers c.members → ConfirmsInstalled (run es (founded c))
unfolding Confirmed
confirms_name_installed c es are p d h =
    let w = run es (founded c) in
    let s = sent_said w.log p (Confirm d) (in_from (sent w) (message p (Confirm d)) h) in
    has_installed_by w p d (subst (λ q. InstalledBy w.log q d) s.3 ((histories_run c es are).confirmed s.0 s.1 d s.2 s.4))

pub decisions_name_installed : (c : Configuration) (es : List MarkedEvent) → AreMembers c.members → DecisionsInstalled (run es (founded c))
decisions_name_installed c es are p id u h =
    let w = run es (founded c) in
    let s = sent_said w.log p (Decision id u) (in_from (sent w) (message p (Decision id u)) h) in
    let r = (histories_run c es are).told.said s.0 s.1 id u s.2 s.4 in
    (r.0, r.1, subst (λ q. LeftFor w.log q r.0 (apply r.0 u)) s.3 r.2)
