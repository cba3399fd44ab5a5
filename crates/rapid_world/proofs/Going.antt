-- A node that has room for a further view has an outcome of each event.
use Rattle.std.proofs.Common.{◌≡◌, ◌&&◌, ◌%◌, ℕ, Bool, true, false, cond, not, List, [], ◌∷◌, map, flat_map, refl, sym, ap, ◌∙◌, Option, Some, None, Result, Ok, Err}
use Rattle.std.specs.Prelude.{is_some, filter, ◌==◌}
use Rattle.rapid_model.specs.Limits.{echo_age, resend_period}
use Rattle.std.specs.Option.{option_eq}
use Rattle.std.specs.List.{list_any}
use Rattle.rapid_model.specs.Bytes.{ConfigurationId}
use Rattle.rapid_model.specs.Process.{Process, same_bytes, endpoint}
use Rattle.rapid_model.specs.Cut.{Cut}
use Rattle.rapid_model.specs.Configuration.{Configuration, position_of}
use Rattle.rapid_model.specs.Alert.{Alert}
use Rattle.rapid_model.specs.Acceptor.{AcceptorRefusal, accepts, promise_answer, after_promise, after_accept}
use Rattle.rapid_model.specs.Ring.{observers_of}
use Rattle.rapid_model.specs.Detector.{after_batch, batch_cut}
use Rattle.rapid_model.specs.Outbox.{resend, flush, unflushed}
use Rattle.rapid_model.specs.Ballot.{Ballot, Vote, fast_ballot}
use Rattle.rapid_model.specs.Coordinator.{accept_cut, after_report, next_ballot, begun}
use Rattle.rapid_model.specs.Host.{HostAnswer, Nothing, Replies, Confirms, Raises, pre_join, join_request, pending_after}
use Rattle.rapid_model.specs.Message.{Message, Body, Batch, FastVote, Prepare, Promise, Accept, Accepted, Decision, PreJoin, Reply, JoinRequest, Confirm, Probe, ProbeAck, caught_up_by, batch_alerts, item_of}
use Rattle.rapid_model.specs.Message as message
use Rattle.rapid_model.specs.Node.{Node, MemberState, Phase, Joining, Member, Removed, Halted, Decisions, Event, EdgeDown, Tick, Receive, Leave, Outcome, Output, Proposes, To, Others, Itself, configuration_of, shown_in, has_installed}
use Rattle.rapid_model.specs.Member.{Work, and_then, then_if, still, says, own_place, vote_seen, take_vote, take_accepted, take_accept, send_accept, take_promise, give_promise, take_prepare, cast_vote, propose, take_batch, at_position, raise_alert, current_id}
use Rattle.rapid_model.specs.Receive.{take, take_or_catch_up, receive_as_member, raise_join, is_about, sends, catch_up}
use Rattle.rapid_model.specs.Tick.{raise_all, echo, echoes, age_of, next_ages, unstable_now, aged, clock_moved, repeats, vote_again, send_alerts, sends_batch, begin_at, is_due, recovers, quiet_tick, batch_tick, on_tick}
use Rattle.rapid_model.specs.NodeStep.{is_history_full, install, put_before, settle_at, settle, step_tick, step_receive, step_edge_down, step_leave, node_step}
use Rattle.rapid_model.specs.NodeReports.{installed_report}
use Rattle.rapid_model.specs.Run.{WorldReport}
use Rattle.rapid_model.specs.StoredWorld.{is_halt}
use Rattle.rapid_model.specs.World.{Peer}
use Rattle.rapid_node.specs.Steps.{HasOutcome}
use Rattle.rapid_world.specs.Going.{has_room_after, has_room}
use Rattle.rapid_world.specs.Handed.{handed, stepped, went_on, stopped}
use Rattle.std.proofs.lemmas.Bool.{not-true}

-- ---- work leaves the configuration as it is

abbrev Keeps : MemberState → Work → Type 0
Keeps s w = w.state.config ≡ s.config

both : (b : Bool) (s : MemberState) (x y : Work) → Keeps s x → Keeps s y → Keeps s (cond b x y)
both true s x y h k = h
both false s x y h k = k

one_after : (s : MemberState) (w : Work) (f : MemberState → Work) → Keeps s w → ((t : MemberState) → Keeps t (f t)) → Keeps s (and_then w f)
one_after s w f h k = by w.decided
  where
    by : (d : Option Cut) → Keeps s (then_if w f d)
    by (Some v) = h
    by None = k w.state ∙ h

accept_keeps : (s : MemberState) (b : Ballot) (v : Cut) → Keeps s (take_accept s b v)
unfolding take_accept
accept_keeps s b v =
    let w = says (record s { acceptor = after_accept s.acceptor b v }) Others (Accepted (current_id s) b v) in
    let f = λ (t : MemberState). take_accepted t (own_place t) b v in
    both (accepts s.acceptor b) s (and_then w f) (still s) (one_after s w f refl (λ t. refl)) refl

send_keeps : (s : MemberState) (b : Ballot) (o : Option Cut) → Keeps s (send_accept s b o)
unfolding send_accept
send_keeps s b None = refl
send_keeps s b (Some v) = one_after s (says s Others (Accept (current_id s) b v)) (λ t. take_accept t b v) refl (λ t. accept_keeps t b v)

promise_keeps : (s : MemberState) (p : ℕ) (b : Ballot) (vote : Option (Vote Cut)) → Keeps s (take_promise s p b vote)
unfolding take_promise
promise_keeps s p b vote = send_keeps (record s { coordinator = after_report s.coordinator p b vote }) b (accept_cut s.coordinator p b vote s.proposal)

give_keeps : (s : MemberState) (from : Process) (b : Ballot) (r : Result (Option (Vote Cut)) AcceptorRefusal) → Keeps s (give_promise s from b r)
give_keeps s from b (Err e) = refl
give_keeps s from b (Ok vote) =
    let after = record s { acceptor = after_promise s.acceptor b } in
    let w = says after Itself (Promise (current_id s) b vote) in
    let f = λ (t : MemberState). take_promise t (own_place t) b vote in
    both (same_bytes from s.me) s (and_then w f) (says after (To (endpoint from)) (Promise (current_id s) b vote)) (one_after s w f refl (λ t. promise_keeps t (own_place t) b vote)) refl

prepare_keeps : (s : MemberState) (from : Process) (b : Ballot) → Keeps s (take_prepare s from b)
unfolding take_prepare
prepare_keeps s from b = give_keeps s from b (promise_answer s.acceptor b)

cast_keeps : (s : MemberState) (v : Cut) → Keeps s (cast_vote s v)
unfolding cast_vote
cast_keeps s v =
    let w = says (record (vote_seen s) { acceptor = after_accept s.acceptor fast_ballot v; voted = true }) Others (FastVote (current_id s) v) in
    let f = λ (t : MemberState). take_vote t (own_place t) v in
    both (accepts s.acceptor fast_ballot) s (and_then w f) (still s) (one_after s w f refl (λ t. refl)) refl

propose_keeps : (s : MemberState) (o : Option Cut) → Keeps s (propose s o)
unfolding propose
propose_keeps s None = refl
propose_keeps s (Some v) = one_after s (record { state = record s { proposal = Some v }; effects = Proposes v ∷ []; decided = None }) (λ t. cast_vote t v) refl (λ t. cast_keeps t v)

batch_keeps : (s : MemberState) (xs : List Alert) → Keeps s (take_batch s xs)
unfolding take_batch
batch_keeps s xs = propose_keeps (record s { detector = after_batch (observers_of s.config) s.detector xs }) (batch_cut (observers_of s.config) s.detector xs)

position_keeps : (s : MemberState) (o : Option ℕ) (f : ℕ → Work) → ((p : ℕ) → Keeps s (f p)) → Keeps s (at_position s o f)
position_keeps s None f h = refl
position_keeps s (Some p) f h = h p

-- ---- messages

take_keeps : (s : MemberState) (from : Process) (b : Body) → Keeps s (take s from b)
unfolding take raise_alert
take_keeps s from (Batch id xs) = batch_keeps s (batch_alerts from id xs)
take_keeps s from (FastVote id v) = position_keeps s (position_of s.config from) (λ p. take_vote s p v) (λ p. refl)
take_keeps s from (Prepare id b) = both (option_eq (◌==◌) (position_of s.config from) (Some b.position)) s (take_prepare s from b) (still s) (prepare_keeps s from b) refl
take_keeps s from (Promise id b vote) = position_keeps s (position_of s.config from) (λ p. take_promise s p b vote) (λ p. promise_keeps s p b vote)
take_keeps s from (Accept id b v) = both (option_eq (◌==◌) (position_of s.config from) (Some b.position)) s (take_accept s b v) (still s) (accept_keeps s b v) refl
take_keeps s from (Accepted id b v) = position_keeps s (position_of s.config from) (λ p. take_accepted s p b v) (λ p. refl)
take_keeps s from (Decision id v) = refl
take_keeps s from PreJoin = refl
take_keeps s from (Reply j a) = refl
take_keeps s from (JoinRequest id k) = refl
take_keeps s from (Confirm c) = refl
take_keeps s from (Probe id) = refl
take_keeps s from (ProbeAck id) = refl
take_keeps s from (message.Leave id k) = refl

caught_keeps : (ds : Decisions) (s : MemberState) (from : Process) (m : Body) → Keeps s (take_or_catch_up ds s from m)
caught_keeps ds s from m = both (is_about (current_id s) (caught_up_by m)) s (take s from m) (sends s (catch_up ds from (caught_up_by m))) (take_keeps s from m) refl

join_keeps : (s : MemberState) (j : Process) (k : ℕ) (a : HostAnswer) → (raise_join s j k a).config ≡ s.config
unfolding raise_alert
join_keeps s j k Nothing = refl
join_keeps s j k (Replies a) = refl
join_keeps s j k (Confirms c) = refl
join_keeps s j k Raises = refl

receive_keeps : (ds : Decisions) (s : MemberState) (from : Process) (b : Body) → Keeps s (receive_as_member ds s from b)
unfolding receive_as_member
receive_keeps ds s from PreJoin = join_keeps (record s { pending = pending_after (pre_join s.config s.pending from) s.pending from }) from 0 (pre_join s.config s.pending from)
receive_keeps ds s from (JoinRequest id k) = join_keeps (record s { pending = pending_after (join_request s.config s.me s.pending from id k) s.pending from }) from k (join_request s.config s.me s.pending from id k)
receive_keeps ds s from (Decision id v) = both (same_bytes id (current_id s)) s (take s from (Decision id v)) (still s) (take_keeps s from (Decision id v)) refl
receive_keeps ds s from (Probe id) = caught_keeps ds s from (Probe id)
receive_keeps ds s from (Batch id xs) = caught_keeps ds s from (Batch id xs)
receive_keeps ds s from (FastVote id v) = caught_keeps ds s from (FastVote id v)
receive_keeps ds s from (Prepare id b) = caught_keeps ds s from (Prepare id b)
receive_keeps ds s from (Promise id b vote) = caught_keeps ds s from (Promise id b vote)
receive_keeps ds s from (Accept id b v) = caught_keeps ds s from (Accept id b v)
receive_keeps ds s from (Accepted id b v) = caught_keeps ds s from (Accepted id b v)
receive_keeps ds s from (Reply j a) = caught_keeps ds s from (Reply j a)
receive_keeps ds s from (Confirm c) = caught_keeps ds s from (Confirm c)
receive_keeps ds s from (ProbeAck id) = caught_keeps ds s from (ProbeAck id)
receive_keeps ds s from (message.Leave id k) = caught_keeps ds s from (message.Leave id k)

-- ---- ticks

raised_keeps : (s : MemberState) (xs : List Alert) → (raise_all s xs).config ≡ s.config
unfolding raise_alert
raised_keeps s [] = refl
raised_keeps s (a ∷ xs) = raised_keeps (raise_alert s a) xs

echo_keeps : (s : MemberState) (us : List Process) → (echo s us).config ≡ s.config
echo_keeps s us = raised_keeps s (flat_map (echoes s) (filter (λ p. age_of s.ages p == echo_age) us))

aged_keeps : (s : MemberState) → (aged s).config ≡ s.config
unfolding aged
aged_keeps s = echo_keeps (record s { ages = next_ages s.ages (unstable_now s) }) (unstable_now s)

repeats_keeps : (s : MemberState) → Keeps s (repeats s)
unfolding repeats
repeats_keeps s =
    let next = record s { outbox = resend s.outbox } in
    both (s.tick % resend_period == 0) s (cond s.voted (vote_again next s.proposal) (still next)) (still s) (both s.voted s (vote_again next s.proposal) (still next) (again s.proposal) refl) refl
  where
    again : (o : Option Cut) → Keeps s (vote_again (record s { outbox = resend s.outbox }) o)
    again None = refl
    again (Some v) = refl

alerts_keep : (s : MemberState) (xs : List Alert) → Keeps s (send_alerts s xs)
unfolding send_alerts
alerts_keep s [] = refl
alerts_keep s (a ∷ xs) =
    one_after s (says (record s { outbox = flush s.outbox }) Others (Batch (current_id s) (map item_of (a ∷ xs)))) (λ t. take_batch t (a ∷ xs)) refl (λ t. batch_keeps t (a ∷ xs))

begin_keeps : (s : MemberState) (o : Option Ballot) → Keeps s (begin_at s o)
begin_keeps s None = refl
begin_keeps s (Some b) =
    one_after s (says (record s { coordinator = begun s.coordinator b }) Others (Prepare (current_id s) b)) (λ t. take_prepare t t.me b) refl (λ t. prepare_keeps t t.me b)

recovers_keeps : (s : MemberState) → Keeps s (recovers s)
unfolding recovers
recovers_keeps s = both (is_due s s.first_vote) s (begin_at s (next_ballot s.coordinator s.acceptor.rnd)) (still s) (begin_keeps s (next_ballot s.coordinator s.acceptor.rnd)) refl

tick_keeps : (s : MemberState) → Keeps s (on_tick s)
unfolding on_tick batch_tick quiet_tick sends_batch
tick_keeps s = one_after s (batch_tick s) recovers (one_after s (quiet_tick s) sends_batch (repeats_keeps (aged (clock_moved s)) ∙ aged_keeps (clock_moved s)) (λ t. alerts_keep t (unflushed t.outbox))) recovers_keeps

-- ---- outcomes

settles : (n : Node) (s : MemberState) (w : Work) → Keeps s w → not (is_history_full n.installed s.config) ≡ true → is_some (settle n w) ≡ true
unfolding settle
settles n s w keeps room = by w.decided
  where
    full : is_history_full n.installed w.state.config ≡ false
    full = ap (is_history_full n.installed) keeps ∙ not-true _ room

    by : (d : Option Cut) → is_some (settle_at n w d) ≡ true
    by None = refl
    by (Some v) = ap (λ b. is_some (cond b None (Some (put_before w.effects (install n w.state v))))) full

-- if an edge goes down nothing is decided
pub edge_goes : (n : Node) (id : ConfigurationId) (k : ℕ) (q : Process) → is_some (node_step n (EdgeDown id k q)) ≡ true
unfolding node_step settle
edge_goes n id k q = by n.phase
  where
    by : (ph : Phase) → is_some (step_edge_down n ph id k q) ≡ true
    by (Joining j) = refl
    by (Member s) = refl
    by (Removed c) = refl
    by (Halted c) = refl

-- nor if a member is to leave
leave_goes : (n : Node) → is_some (node_step n Leave) ≡ true
unfolding node_step settle
leave_goes n = by n.phase
  where
    by : (ph : Phase) → is_some (step_leave n ph) ≡ true
    by (Joining j) = refl
    by (Member s) = refl
    by (Removed c) = refl
    by (Halted c) = refl

pub room_goes : (n : Node) (e : Event) → has_room n ≡ true → is_some (node_step n e) ≡ true
unfolding node_step
room_goes n (EdgeDown id k q) room = edge_goes n id k q
room_goes n Leave room = leave_goes n
room_goes n Tick room = by n.phase refl
  where
    by : (ph : Phase) → n.phase ≡ ph → is_some (step_tick n ph) ≡ true
    by (Joining j) is = refl
    by (Member s) is = settles n s (on_tick s) (tick_keeps s) (sym (ap (λ p. has_room_after n.installed (shown_in p)) is) ∙ room)
    by (Removed c) is = refl
    by (Halted c) is = refl
room_goes n (Receive m) room = by n.phase refl
  where
    by : (ph : Phase) → n.phase ≡ ph → is_some (step_receive n ph m) ≡ true
    by (Joining j) is = refl
    by (Member s) is = settles n s (receive_as_member n.decisions s m.sender m.body) (receive_keeps n.decisions s m.sender m.body) (sym (ap (λ p. has_room_after n.installed (shown_in p)) is) ∙ room)
    by (Removed c) is = refl
    by (Halted c) is = refl

-- an outcome that was found is there
pub outcome_found : (me : Process) (o : Option Outcome) (new : Node) (sent : List Output) → HasOutcome me o new sent → is_some o ≡ true
outcome_found me None new sent h = absurd h
outcome_found me (Some o) new sent h = refl

-- ---- marks

abbrev Quiet : List WorldReport → Type 0
Quiet rs = list_any is_halt rs ≡ false

went_quiet : (p : Peer) (o : Outcome) → Quiet (went_on p o).reports
went_quiet p o = by (has_installed p.node o.node) (configuration_of o.node)
  where
    by : (b : Bool) (c : Option Configuration) → Quiet (cond b (installed_report p.node c) [])
    by true None = refl
    by true (Some c) = refl
    by false c = refl

-- a node that has an outcome halts by its mark alone
pub goes_quiet : (p : Peer) (e : Event) → is_some (node_step p.node e) ≡ true → Quiet (handed p e false).reports
unfolding handed
goes_quiet p e has = by (node_step p.node e) has
  where
    by : (o : Option Outcome) → is_some o ≡ true → Quiet (stepped p o).reports
    by None h = cc
    by (Some o) h = went_quiet p o

-- a node that has no outcome halts the same with a mark and without
pub same_mark : (p : Peer) (e : Event) (h g : Bool) → g ≡ is_some (node_step p.node e) → handed p e h ≡ handed p e (h && g)
unfolding handed
same_mark p e false g is = refl
same_mark p e true true is = refl
same_mark p e true false is = by (node_step p.node e) is
  where
    by : (o : Option Outcome) → false ≡ is_some o → stopped p ≡ stepped p o
    by None h = refl
    by (Some o) h = cc

pub mark_needed : (p : Peer) (e : Event) (h g : Bool) → g ≡ is_some (node_step p.node e) → (h && g) ≡ true → Quiet (handed p e false).reports
mark_needed p e h g is t = goes_quiet p e (sym is ∙ second h g t)
  where
    second : (a b : Bool) → (a && b) ≡ true → b ≡ true
    second true b k = k
    second false b k = cc
