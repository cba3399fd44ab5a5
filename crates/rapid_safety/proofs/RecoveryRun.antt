-- The run in which a change is recovered.
use Rattle.std.proofs.Common.{◌≡◌, ◌+◌, ◌==◌, ℕ, Bool, true, false, cond, not, ◌&&◌, List, [], ◌∷◌, refl, sym, ap, ◌∙◌, Some, None, length, ◌-◌, suc, filter, Option, arith, ◌≤◌, ◌<◌, inl, inr, zero, ◌++◌, map, count_by, subst}
use Rattle.rapid_safety.proofs.Basics.{nat_le, ◌<◌, ◌%◌, nat_lt, ◌*◌, filter_map, replicate, drop, Contains, nat_cmp, nat_cmp_total, ne_eqb, list_any, and-false, cuts_total, same_cut_decides, notices_total, In, in_from, contains_from}
use Rattle.std.specs.FinMap.Entries.{put}
use Rattle.std.specs.FinSet as set
use Rattle.std.specs.FinMap as finmap
use Rattle.rapid_safety.proofs.Values.{Cut, cut_cmp, same_cut, Vote, fast_ballot, same_ballot, endpoint, Process, identifier, same_bytes, stamp, configuration_id, Body, Prepare, Promise, Accept, Accepted, Confirm, Message, FastVote, Decision, size}
use Rattle.rapid_safety.proofs.Parts.{one_more, fresh_round, hear_vote, fast_decision, Coordinator, fresh_coordinator, begun, value_by, value_of, after_report, accept_cut, next_ballot, Learner, Notice, notice_cmp, notice_count, fresh_learner, after_notice, learnt, reports, is_unstable, Acceptor, promise_answer, after_promise, accepts, accept_answer, after_accept, confirms}
use Rattle.rapid_safety.proofs.Working.{Node, Member, MemberState, To, Others, Itself, Effect, Says, Tick, Receive, fresh_member, seed_node, Work, still, and_then, after_effects, vote_seen, take_prepare, take_promise, send_accept, take_accept, next_ages, echo, unstable_now, aged, repeats, send_alerts, sends_batch, begin_at, recovers, quiet_tick, batch_tick, on_tick, take, receive_as_member, sends, catch_up, install, settle, node_step}
use Rattle.rapid_safety.proofs.Worlds.{IsQuorumAt, IsChosenAt, World, Peer, Took, Ticked, Entry, Deliver, MarkedEvent, added, settled, moved, hands, world_step, run, founded, Sent, sent, Received, received, Voted, said_about, NoCollision}
use Rattle.rapid_model.specs.World as world
use Rattle.rapid_agreement.proofs.SetLemmas.{len_new_kept}
use Rattle.rapid_safety.specs.Examples.{second_ballot, other, host, guest, two, three, happens, recovered_run}
use Rattle.rapid_safety.proofs.GuestRun.{v, id, t, q0, s7, m0, n2, n3, m2, vote, waiting, id_itself, subjects_none, first_vote_is, host_in, other_in, confirms_it, confirms_none, installed_by, j1, out, w6, asked_is, node_joins, installs_of, none_collide}
use Rattle.rapid_safety.proofs.Deciding.{notices_exact}
use Rattle.rapid_safety.proofs.Atoms.{message}
use Rattle.rapid_model.proofs.Lists.{count_cons, in_any}

-- ---- the promises

-- the coordinator as it begins the ballot, and after its own promise
abbrev pub c1 : Coordinator
c1 = begun (fresh_coordinator 2 0) second_ballot

abbrev pub c2 : Coordinator
c2 = record c1 { heard = set.insert set.empty 0 }

-- the host's vote, as it reports it
abbrev pub reported : Vote Cut
reported = record { ballot = fast_ballot; value = v }

-- the coordinator after both promises
abbrev pub c3 : Coordinator
c3 = record c2 { heard = set.insert (set.insert set.empty 0) 1; top = Some fast_ballot; counts = one_more finmap.empty v }

pub own_promise : after_report c1 0 second_ballot None ≡ c2
unfolding after_report
own_promise = ap (λ b. cond (not b) c2 c1) (set.contains-empty nat_cmp 0)

pub not_asked : accept_cut c1 0 second_ballot None None ≡ None
unfolding accept_cut
not_asked =
    ap (λ b. cond (not b && (set.len (set.empty {R = nat_cmp}) + 1 == 2)) (value_of (after_report c1 0 second_ballot None) None) None) (set.contains-empty nat_cmp 0)
    ∙ ap (λ n. cond (n + 1 == 2) (value_of (after_report c1 0 second_ballot None) None) None) (set.len-empty nat_cmp)

one_is_new : set.contains (set.insert (set.empty {R = nat_cmp}) 0) 1 ≡ false
one_is_new = set.contains-insert nat_cmp_total set.empty 0 1 ∙ set.contains-empty nat_cmp 1

one_heard : set.len (set.insert (set.empty {R = nat_cmp}) 0) ≡ 1
one_heard =
    set.len-insert nat_cmp_total set.empty 0 ∙ ap (λ b. cond b (set.len (set.empty {R = nat_cmp})) (set.len (set.empty {R = nat_cmp}) + 1)) (set.contains-empty nat_cmp 0)
    ∙ ap (λ n. n + 1) (set.len-empty nat_cmp)

pub second_promise : after_report c2 1 second_ballot (Some reported) ≡ c3
unfolding after_report
second_promise = ap (λ b. cond (not b) c3 c2) one_is_new

no_entries : finmap.entries (finmap.empty {X = ℕ} {R = cut_cmp}) ≡ []
no_entries = by (finmap.entries (finmap.empty {X = ℕ} {R = cut_cmp})) (sym (finmap.len-entries (finmap.empty {X = ℕ} {R = cut_cmp})) ∙ finmap.len-empty cut_cmp ℕ)
  where
    by : {A : Type 0} (xs : List A) → length xs ≡ 0 → xs ≡ []
    by [] e = refl
    by (x ∷ xs) e = cc

-- one cut is reported
reported_one : (n : ℕ) → finmap.entries (finmap.insert (finmap.empty {R = cut_cmp}) v n) ≡ (v, n) ∷ []
reported_one n = finmap.entries-insert cuts_total finmap.empty v n ∙ ap (put cut_cmp v n) no_entries

value_is : value_of c3 None ≡ Some v
value_is = ap (λ es. value_by 2 (set.len c3.heard) es None) (reported_one _)

-- the host's promise completes the quorum, and its cut is asked for
pub asked : accept_cut c2 1 second_ballot (Some reported) None ≡ Some v
unfolding accept_cut
asked =
    ap (λ b. cond (not b && (set.len (set.insert (set.empty {R = nat_cmp}) 0) + 1 == 2)) (value_of (after_report c2 1 second_ballot (Some reported)) None) None) one_is_new
    ∙ ap (λ n. cond (n + 1 == 2) (value_of (after_report c2 1 second_ballot (Some reported)) None) None) one_heard
    ∙ ap (λ c. value_of c None) second_promise ∙ value_is

-- ---- the notices

-- the notice of the member at a position, and the test of such notices
abbrev notice : ℕ → Notice
notice p = ((second_ballot, v), p)

abbrev is_one : Notice → Bool
is_one x = same_ballot x.0.0 second_ballot && same_cut x.0.1 v

passes : (p : ℕ) → is_one (notice p) ≡ true
passes p = ap (λ b. same_ballot second_ballot second_ballot && b) ((same_cut_decides v v).1 refl)

none_kept : set.len (set.retain (set.empty {R = notice_cmp}) is_one) ≡ 0
none_kept =
    ap set.len
    (set.same_set notices_total notices_exact _ (set.empty {R = notice_cmp})
    (λ q. set.contains-retain (set.empty {R = notice_cmp}) is_one q (λ x e. ap is_one (sym (notices_exact q x e)))
    ∙ ap (λ b. b && is_one q) (set.contains-empty notice_cmp q) ∙ sym (set.contains-empty notice_cmp q)))
    ∙ set.len-empty notice_cmp

one_count : (p : ℕ) → notice_count (set.insert set.empty (notice p)) second_ballot v ≡ 1
one_count p =
    len_new_kept notices_total notices_exact set.empty (notice p) is_one (set.contains-empty notice_cmp (notice p))
    ∙ ap (λ b. cond b 1 0 + set.len (set.retain (set.empty {R = notice_cmp}) is_one)) (passes p) ∙ ap (λ n. 1 + n) none_kept

-- the learner after one notice
abbrev pub after_one : ℕ → Learner
after_one p = record { size = 2; notices = set.insert set.empty (notice p); decided = false }

pub one_notice : (p : ℕ) → after_notice (fresh_learner 2) p second_ballot v ≡ after_one p
unfolding after_notice
one_notice p = ap (λ n. record { size = 2; notices = set.insert set.empty (notice p); decided = nat_le 2 n }) (one_count p)

pub not_learnt : (p : ℕ) → learnt (fresh_learner 2) p second_ballot v ≡ None
unfolding learnt
not_learnt p = ap (λ n. cond (nat_le 2 n) (Some v) None) (one_count p)

two_count : (p q : ℕ) → set.contains (set.insert (set.empty {R = notice_cmp}) (notice p)) (notice q) ≡ false → notice_count (set.insert (set.insert set.empty (notice p)) (notice q)) second_ballot v ≡ 2
two_count p q new =
    len_new_kept notices_total notices_exact (set.insert set.empty (notice p)) (notice q) is_one new
    ∙ ap (λ b. cond b 1 0 + notice_count (set.insert set.empty (notice p)) second_ballot v) (passes q) ∙ ap (λ n. 1 + n) (one_count p)

learns : (p q : ℕ) → set.contains (set.insert (set.empty {R = notice_cmp}) (notice p)) (notice q) ≡ false → learnt (after_one p) q second_ballot v ≡ Some v
unfolding learnt
learns p q new = ap (λ n. cond (nat_le 2 n) (Some v) None) (two_count p q new)

zero_new : set.contains (set.insert (set.empty {R = notice_cmp}) (notice 1)) (notice 0) ≡ false
zero_new = set.contains-insert notices_total set.empty (notice 1) (notice 0) ∙ set.contains-empty notice_cmp (notice 0)

one_new : set.contains (set.insert (set.empty {R = notice_cmp}) (notice 0)) (notice 1) ≡ false
one_new = set.contains-insert notices_total set.empty (notice 0) (notice 1) ∙ set.contains-empty notice_cmp (notice 1)

-- the notice of the other member completes the quorum
pub host_learns : learnt (after_one 1) 0 second_ballot v ≡ Some v
host_learns = learns 1 0 zero_new

pub other_learns : learnt (after_one 0) 1 second_ballot v ≡ Some v
other_learns = learns 0 1 one_new

-- ---- two members recover a change that the fast round does not decide: what their steps are

-- work that decides nothing, and a node of the other and of the host
abbrev works : MemberState → List Effect → Work
works s es = record { state = s; effects = es; decided = None }

abbrev other_as : MemberState → Node
other_as s = record m0 { phase = Member s }

abbrev host_as : MemberState → Node
host_as s = record n2 { phase = Member s }

-- ---- the other hears the host's vote alone

abbrev r0 : MemberState
r0 = record (vote_seen q0) { fast = hear_vote (fresh_round 2) 1 v }

-- and is at a tick
abbrev at_tick : ℕ → MemberState
at_tick k = record r0 { tick = k; ages = finmap.empty }

abbrev pub waits : ℕ → Node
waits k = other_as (at_tick k)

hears_vote : receive_as_member [] q0 host vote ≡ works (at_tick 0) []
unfolding receive_as_member take fresh_member
hears_vote =
    ap (λ b. cond b (record { state = r0; effects = []; decided = fast_decision (fresh_round 2) 1 v }) (sends q0 (catch_up [] host (Some id)))) id_itself
    ∙ ap (λ d. record { state = r0; effects = []; decided = d }) (first_vote_is 1)

pub node_hears : node_step m0 (Receive (message host vote)) ≡ Some (record { node = waits 0; effects = [] })
unfolding node_step settle
node_hears = ap (settle m0) hears_vote

-- ---- its ticks

unstable_none : (k : ℕ) → unstable_now (at_tick k) ≡ []
unfolding unstable_now fresh_member
unstable_none k = ap (filter (is_unstable t (reports t set.empty))) subjects_none

aged_is : (k : ℕ) → aged (at_tick k) ≡ at_tick k
unfolding aged fresh_member
aged_is k = ap (λ us. echo (record (at_tick k) { ages = next_ages (at_tick k).ages us }) us) (unstable_none k)

-- what is done when the clock has moved to a tick
abbrev goes_on : Work → Work
goes_on w = and_then (and_then w sends_batch) recovers

tick_is : (k : ℕ) → k < 20 → on_tick (at_tick k) ≡ goes_on (repeats (at_tick (suc k)))
unfolding on_tick batch_tick quiet_tick
tick_is k h = ap (λ n. goes_on (repeats (aged (at_tick n)))) (omega (arith, h)) ∙ ap (λ s. goes_on (repeats s)) (aged_is (suc k))

sends_none : (k : ℕ) → sends_batch (at_tick k) ≡ still (at_tick k)
unfolding sends_batch send_alerts fresh_member
sends_none k = refl

-- before the twentieth nothing is due
not_twentieth : (k : ℕ) → k < 19 → (suc k % 20 == 0) ≡ false
not_twentieth k h = ne_eqb (suc k % 20) 0 (λ e. omega arith)

not_due : (k : ℕ) → k < 19 → ((suc k - 0) % 20 == 0) ≡ false
not_due k h = ne_eqb ((suc k - 0) % 20) 0 (λ e. omega arith)

repeats_none : (k : ℕ) → k < 19 → repeats (at_tick (suc k)) ≡ still (at_tick (suc k))
unfolding repeats fresh_member
repeats_none k h = ap (λ b. cond b (still (at_tick (suc k))) (still (at_tick (suc k)))) (not_twentieth k h)

recovers_none : (k : ℕ) → k < 19 → recovers (at_tick (suc k)) ≡ still (at_tick (suc k))
unfolding recovers fresh_member
recovers_none k h = ap (λ b. begins_if (nat_lt 0 (suc k) && b)) (not_due k h) ∙ ap begins_if (and-false (nat_lt 0 (suc k)))
  where
    begins_if : Bool → Work
    begins_if b = cond b (begin_at (at_tick (suc k)) (next_ballot (at_tick (suc k)).coordinator fast_ballot)) (still (at_tick (suc k)))

quiet_work : (k : ℕ) → k < 19 → on_tick (at_tick k) ≡ works (at_tick (suc k)) []
quiet_work k h =
    tick_is k (omega arith) ∙ ap goes_on (repeats_none k h) ∙ ap (λ w. and_then (after_effects [] w) recovers) (sends_none (suc k))
    ∙ ap (after_effects []) (recovers_none k h)

pub node_waits : (k : ℕ) → k < 19 → node_step (waits k) Tick ≡ Some (record { node = waits (suc k); effects = [] })
unfolding node_step settle fresh_member
node_waits k h = ap (settle (waits k)) (quiet_work k h)

-- ---- at the twentieth tick it begins a ballot

abbrev pub prepare : Body
prepare = Prepare id second_ballot

abbrev pub own : Body
own = Promise id second_ballot None

-- as it begins, and after its own promise
abbrev r1 : MemberState
r1 = record (at_tick 20) { coordinator = c1 }

abbrev promised : Acceptor Cut
promised = record { rnd = second_ballot; last = None }

abbrev r2 : MemberState
r2 = record r1 { acceptor = promised; coordinator = c2 }

abbrev pub m3 : Node
m3 = other_as r2

abbrev pub begins : List Effect
begins = Says Others prepare ∷ Says Itself own ∷ []

abbrev with_promise : Coordinator → Option Cut → Work
with_promise c o = after_effects begins (send_accept (record r1 { acceptor = promised; coordinator = c }) second_ballot o)

begun_is : recovers (at_tick 20) ≡ works r2 begins
unfolding send_accept recovers fresh_member next_ballot take_prepare promise_answer after_promise take_promise
begun_is = ap (λ o. with_promise (after_report c1 0 second_ballot None) o) not_asked ∙ ap (λ c. with_promise c None) own_promise

last_work : on_tick (at_tick 19) ≡ works r2 begins
unfolding repeats fresh_member
last_work =
    tick_is 19 (omega arith) ∙ ap (λ w. and_then (after_effects [] w) recovers) (sends_none 20)
    ∙ ap (after_effects []) begun_is

pub node_begins : node_step (waits 19) Tick ≡ Some (record { node = m3; effects = begins })
unfolding node_step settle fresh_member
node_begins = ap (settle (waits 19)) last_work

-- ---- the host promises, and reports its vote

abbrev pub promise : Body
promise = Promise id second_ballot (Some reported)

abbrev h1 : MemberState
h1 = record s7 { acceptor = record { rnd = second_ballot; last = Some reported } }

abbrev pub n4 : Node
n4 = host_as h1

hears_prepare : receive_as_member [] s7 other prepare ≡ works h1 (Says (To (endpoint other)) promise ∷ [])
unfolding receive_as_member take fresh_member take_prepare promise_answer after_promise after_accept accepts accept_answer
hears_prepare = ap (λ b. cond b (works h1 (Says (To (endpoint other)) promise ∷ [])) (sends s7 (catch_up [] other (Some id)))) id_itself

pub node_prepare : node_step n2 (Receive (message other prepare)) ≡ Some (record { node = n4; effects = Says (To (endpoint other)) promise ∷ [] })
unfolding node_step settle
node_prepare = ap (settle n2) hears_prepare

-- ---- the other asks for the host's cut, and accepts it

abbrev pub accept : Body
accept = Accept id second_ballot v

abbrev pub accepted : Body
accepted = Accepted id second_ballot v

-- as it asks, and after its own notice
abbrev r3 : MemberState
r3 = record r2 { coordinator = c3 }

abbrev voted_there : Acceptor Cut
voted_there = record { rnd = second_ballot; last = Some (record { ballot = second_ballot; value = v }) }

abbrev r4 : MemberState
r4 = record r3 { acceptor = voted_there; learner = after_one 0 }

abbrev pub m4 : Node
m4 = other_as r4

abbrev pub asks : List Effect
asks = Says Others accept ∷ Says Others accepted ∷ []

abbrev with_asked : Coordinator → Option Cut → Work
with_asked c o = send_accept (record r2 { coordinator = c }) second_ballot o

hears_promise : receive_as_member [] r2 host promise ≡ with_asked (after_report c2 1 second_ballot (Some reported)) (accept_cut c2 1 second_ballot (Some reported) None)
unfolding receive_as_member take fresh_member take_promise
hears_promise =
    ap (λ b. cond b (with_asked (after_report c2 1 second_ballot (Some reported)) (accept_cut c2 1 second_ballot (Some reported) None)) (sends r2 (catch_up [] host (Some id)))) id_itself

abbrev own_notice : Learner → Option Cut → Work
own_notice l d = record { state = record r3 { acceptor = voted_there; learner = l }; effects = asks; decided = d }

promise_is : receive_as_member [] r2 host promise ≡ works r4 asks
unfolding send_accept take_accept accepts accept_answer after_accept fresh_member
promise_is =
    hears_promise ∙ ap (with_asked (after_report c2 1 second_ballot (Some reported))) asked ∙ ap (λ c. with_asked c (Some v)) second_promise
    ∙ ap (own_notice (after_notice (fresh_learner 2) 0 second_ballot v)) (not_learnt 0) ∙ ap (λ l. own_notice l None) (one_notice 0)

pub node_promise : node_step m3 (Receive (message host promise)) ≡ Some (record { node = m4; effects = asks })
unfolding node_step settle
node_promise = ap (settle m3) promise_is

-- ---- the host accepts it

abbrev h2 : MemberState
h2 = record h1 { acceptor = voted_there; learner = after_one 1 }

abbrev pub n5 : Node
n5 = host_as h2

abbrev host_notice : Learner → Option Cut → Work
host_notice l d = record { state = record h1 { acceptor = voted_there; learner = l }; effects = Says Others accepted ∷ []; decided = d }

hears_accept : receive_as_member [] h1 other accept ≡ host_notice (after_notice (fresh_learner 2) 1 second_ballot v) (learnt (fresh_learner 2) 1 second_ballot v)
unfolding receive_as_member take fresh_member take_accept accepts accept_answer after_accept
hears_accept =
    ap (λ b. cond b (host_notice (after_notice (fresh_learner 2) 1 second_ballot v) (learnt (fresh_learner 2) 1 second_ballot v)) (sends h1 (catch_up [] other (Some id)))) id_itself

accept_is : receive_as_member [] h1 other accept ≡ works h2 (Says Others accepted ∷ [])
accept_is = hears_accept ∙ ap (host_notice (after_notice (fresh_learner 2) 1 second_ballot v)) (not_learnt 1) ∙ ap (λ l. host_notice l None) (one_notice 1)

pub node_accept : node_step n4 (Receive (message other accept)) ≡ Some (record { node = n5; effects = Says Others accepted ∷ [] })
unfolding node_step settle
node_accept = ap (settle n4) accept_is

-- ---- each decides by the other's notice

abbrev host_done : Option Cut → Work
host_done d = record { state = record h2 { learner = after_notice (after_one 1) 0 second_ballot v }; effects = []; decided = d }

host_hears : receive_as_member [] h2 other accepted ≡ host_done (Some v)
unfolding receive_as_member take fresh_member
host_hears = ap (λ b. cond b (host_done (learnt (after_one 1) 0 second_ballot v)) (sends h2 (catch_up [] other (Some id)))) id_itself ∙ ap host_done host_learns

pub host_installs : node_step n5 (Receive (message other accepted)) ≡ Some (record { node = n3; effects = Says (To (endpoint guest)) (Confirm three) ∷ [] })
unfolding node_step settle install fresh_member
host_installs =
    ap (settle n5) host_hears ∙ ap (λ b. installed_by host b (confirms three waiting)) host_in ∙ ap (installed_by host true) confirms_it

abbrev other_done : Option Cut → Work
other_done d = record { state = record r4 { learner = after_notice (after_one 0) 1 second_ballot v }; effects = []; decided = d }

other_hears : receive_as_member [] r4 host accepted ≡ other_done (Some v)
unfolding receive_as_member take fresh_member
other_hears = ap (λ b. cond b (other_done (learnt (after_one 0) 1 second_ballot v)) (sends r4 (catch_up [] host (Some id)))) id_itself ∙ ap other_done other_learns

pub other_installs : node_step m4 (Receive (message host accepted)) ≡ Some (record { node = m2; effects = [] })
unfolding node_step settle install fresh_member
other_installs =
    ap (settle m4) other_hears ∙ ap (λ b. installed_by other b (confirms three set.empty)) other_in ∙ ap (installed_by other true) confirms_none

-- ---- the run in which a change is recovered

-- ---- the worlds

abbrev w7 : World
w7 = moved w6 0 (added m0) (Took (message host vote) ∷ []) (out (waits 0) [])

-- these entries, and then some ticks of the other
ticks : ℕ → List Entry → List Entry
ticks zero es = es
ticks (suc n) es = ticks n es ++ record { who = other; at = Some two; act = Ticked } ∷ []

-- the other has waited for some ticks
abbrev quiet : ℕ → World
quiet n = record w7 { peers = added (waits n) ∷ added n2 ∷ added j1 ∷ []; log = ticks n w7.log }

abbrev w8 : World
w8 = moved (quiet 19) 0 (added (waits 19)) (Ticked ∷ []) (out m3 begins)

abbrev w9 : World
w9 = moved w8 1 (added n2) (Took (message other prepare) ∷ []) (out n4 (Says (To (endpoint other)) promise ∷ []))

abbrev w10 : World
w10 = moved w9 0 (added m3) (Took (message host promise) ∷ []) (out m4 asks)

abbrev w11 : World
w11 = moved w10 1 (added n4) (Took (message other accept) ∷ []) (out n5 (Says Others accepted ∷ []))

abbrev w12 : World
w12 = moved w11 1 (added n5) (Took (message other accepted) ∷ []) (out n3 (Says (To (endpoint guest)) (Confirm three) ∷ []))

abbrev w13 : World
w13 = moved w12 0 (added m4) (Took (message host accepted) ∷ []) (out m2 [])

abbrev w14 : World
w14 = moved w13 2 (added j1) (Took (message host (Confirm three)) ∷ []) (out (seed_node three guest) [])

-- ---- the steps

abbrev tick : MarkedEvent
tick = happens (world.Tick (identifier other))

step7 : world_step w6 (happens (Deliver 5)) ≡ w7
unfolding world_step hands fresh_member
step7 = ap (settled w6 0 (added m0) (Took (message host vote) ∷ [])) node_hears

first_quiet : w7 ≡ quiet 0
unfolding ticks fresh_member
first_quiet = refl

quiet_step : (k : ℕ) → k < 19 → world_step (quiet k) tick ≡ quiet (suc k)
unfolding world_step hands fresh_member ticks
quiet_step k h = ap (settled (quiet k) 0 (added (waits k)) (Ticked ∷ [])) (node_waits k h)

quiet_steps : (n k m : ℕ) (rest : List MarkedEvent) → n + k ≡ m → m ≤ 19 → run (replicate n tick ++ rest) (quiet k) ≡ run rest (quiet m)
quiet_steps zero k m rest e h = let same : k ≡ m = omega arith in ap (λ i. run rest (quiet i)) same
quiet_steps (suc n) k m rest e h = ap (run (replicate n tick ++ rest)) (quiet_step k (omega arith)) ∙ quiet_steps n (suc k) m rest (omega arith) h

-- the last deliveries of the run
abbrev from : ℕ → List MarkedEvent
from n = drop (n + 21) recovered_run

run_is : run recovered_run (founded two) ≡ w14
unfolding world_step hands fresh_member
run_is =
    asked_is (happens (Deliver 5) ∷ replicate 19 tick ++ tick ∷ from 6) ∙ ap (run (replicate 19 tick ++ tick ∷ from 6)) (step7 ∙ first_quiet)
    ∙ quiet_steps 19 0 19 (tick ∷ from 6) (omega arith) (omega arith) ∙ ap (run (from 6)) (ap (settled (quiet 19) 0 (added (waits 19)) (Ticked ∷ [])) node_begins)
    ∙ ap (run (from 7)) (ap (settled w8 1 (added n2) (Took (message other prepare) ∷ [])) node_prepare) ∙ ap (run (from 8)) (ap (settled w9 0 (added m3) (Took (message host promise) ∷ [])) node_promise)
    ∙ ap (run (from 9)) (ap (settled w10 1 (added n4) (Took (message other accept) ∷ [])) node_accept) ∙ ap (run (from 10)) (ap (settled w11 1 (added n5) (Took (message other accepted) ∷ [])) host_installs)
    ∙ ap (run (from 11)) (ap (settled w12 0 (added m4) (Took (message host accepted) ∷ [])) other_installs) ∙ ap (settled w13 2 (added j1) (Took (message host (Confirm three)) ∷ [])) node_joins

-- ---- what the three installed

pub all_install : map (λ (p : Peer). p.node.installed) (run recovered_run (founded two)).peers ≡ (stamp two ∷ stamp three ∷ []) ∷ (stamp two ∷ stamp three ∷ []) ∷ (stamp three ∷ []) ∷ []
all_install = ap (λ (w : World). map (λ (p : Peer). p.node.installed) w.peers) run_is

log_installs : filter_map (λ (e : Entry). installs_of e.act) w14.log ≡ two ∷ two ∷ three ∷ three ∷ three ∷ []
unfolding fresh_member ticks
log_installs = refl

pub recovers_apart : NoCollision (run recovered_run (founded two))
recovers_apart = subst NoCollision (sym run_is) (none_collide w14 log_installs)

-- ---- the cut is chosen at the classic ballot

other_said : Sent w14 other accepted
unfolding ticks
other_said = contains_from (sent w14) (message other accepted) (inr (inr (inr (inr (inr (inr (inr (inr (inr (inl refl))))))))))

host_said : Sent w14 host accepted
unfolding ticks
host_said = contains_from (sent w14) (message host accepted) (inr (inr (inr (inr (inr (inr (inr (inr (inr (inr (inl refl)))))))))))

-- each of the two founders
each_founder : (P : Process → Type 0) → P other → P host → (p : Process) → In (other ∷ host ∷ []) p → P p
each_founder P a b p (inl e) = subst P e a
each_founder P a b p (inr (inl e)) = subst P e b
each_founder P a b p (inr (inr n)) = absurd n

pub chosen_later : IsChosenAt two.members (said_about (run recovered_run (founded two)) two) second_ballot (guest ∷ [])
chosen_later = subst (λ w. IsChosenAt two.members (said_about w two) second_ballot v) (sym run_is)
    (record {
      quorum = λ p. true;
      enough = inr (refl, omega arith);
      votes = λ p h q. inr (refl, each_founder (λ x. Sent w14 x accepted) other_said host_said p (in_from two.members p h));
    })

-- ---- each founder takes both notices

other_takes : (q : Process) → In (other ∷ host ∷ []) q → Received w14 other two q accepted
unfolding ticks fresh_member
other_takes =
    each_founder (λ q. Received w14 other two q accepted) (contains_from (received w14 other two) (message other accepted) (inr (inr (inr (inr (inr (inl refl)))))))
    (contains_from (received w14 other two) (message host accepted) (inr (inr (inr (inr (inr (inr (inl refl))))))))

host_takes : (q : Process) → In (other ∷ host ∷ []) q → Received w14 host two q accepted
unfolding ticks fresh_member
host_takes =
    each_founder (λ q. Received w14 host two q accepted) (contains_from (received w14 host two) (message other accepted) (inr (inr (inr (inr (inr (inr (inr (inl refl)))))))))
    (contains_from (received w14 host two) (message host accepted) (inr (inr (inr (inr (inr (inr (inl refl))))))))

pub all_take : (p q : Process) → Contains two.members p → Contains two.members q → Received (run recovered_run (founded two)) p two q (Accepted (configuration_id two) second_ballot (guest ∷ []))
all_take p q h k = subst (λ w. Received w p two q accepted) (sym run_is) (each_founder (λ x. Received w14 x two q accepted) (other_takes q (in_from two.members q k)) (host_takes q (in_from two.members q k)) p (in_from two.members p h))

-- ---- none is chosen at the fast ballot

is_fast_vote : Body → Bool
is_fast_vote (FastVote i u) = true
is_fast_vote b = false

abbrev is_others : Message → Bool
is_others m = same_bytes m.sender other && is_fast_vote m.body

-- the other casts no fast vote
never_votes : (u : Cut) → Sent w14 other (FastVote id u) → ⊥
unfolding ticks is_fast_vote
never_votes u s =
    let yes : list_any is_others (sent w14) ≡ true = in_any is_others (sent w14) (message other (FastVote id u)) (in_from (sent w14) _ s) refl in
    let wrong : true ≡ false = sym yes in cc

-- a fast quorum of two is both
both_needed : (q : Process → Bool) → 6 < 4 * size (other ∷ host ∷ []) q → q other ≡ true
both_needed q h = by (q other) (q host) refl refl
  where
    few : (b : Bool) → cond b 1 0 ≤ 1
    few true = omega arith
    few false = omega arith

    by : (a b : Bool) → q other ≡ a → q host ≡ b → a ≡ true
    by true b e f = refl
    by false b e f =
        absurd (omega (arith, (count_cons q other (host ∷ []) ∙ ap (λ z. cond z 1 0 + count_by q (host ∷ [])) e), (count_cons q host [] ∙ ap (λ z. cond z 1 0 + 0) f), (few b), h))

vote_is_fast : (u : Cut) → Voted w14 two other fast_ballot u → ⊥
vote_is_fast u (inl x) = never_votes u x.1
vote_is_fast u (inr x) = let wrong : false ≡ true = x.0 in cc

not_there : (u : Cut) → IsChosenAt two.members (said_about w14 two) fast_ballot u → ⊥
not_there u c = by c.enough
  where
    by : IsQuorumAt two.members fast_ballot c.quorum → ⊥
    by (inl x) = vote_is_fast u (c.votes other (contains_from two.members other (inl refl)) (both_needed c.quorum x.1))
    by (inr x) = let wrong : false ≡ true = x.0 in cc

pub not_chosen_fast : (u : Cut) → IsChosenAt two.members (said_about (run recovered_run (founded two)) two) fast_ballot u → ⊥
not_chosen_fast u = subst (λ w. IsChosenAt two.members (said_about w two) fast_ballot u → ⊥) (sym run_is) (not_there u)

-- ---- no decision is told, so each founder decides by the notices

is_decision : Body → Bool
is_decision (Decision i u) = true
is_decision b = false

pub never_told : (p : Process) (i : List ℕ) (u : Cut) → Sent (run recovered_run (founded two)) p (Decision i u) → ⊥
unfolding ticks is_decision
never_told p i u =
    subst (λ w. Sent w p (Decision i u) → ⊥) (sym run_is)
    (λ s. let yes : list_any (λ (m : Message). is_decision m.body) (sent w14) ≡ true = in_any (λ m. is_decision m.body) (sent w14) (message p (Decision i u)) (in_from (sent w14) _ s) refl in
    let wrong : true ≡ false = sym yes in cc)
