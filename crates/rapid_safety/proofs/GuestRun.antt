-- The run in which a guest joins two founders, one of which catches up.
use Rattle.std.proofs.Common.{◌≡◌, ◌+◌, ◌==◌, inl, inr, ℕ, Bool, true, false, cond, not, ◌&&◌, ◌||◌, List, [], ◌∷◌, map, filter, refl, sym, ap, ap₂, ◌∙◌, Option, Some, None, length, arith, unwrap_or, ◌⊎◌, ◌++◌, subst}
use Rattle.rapid_safety.proofs.Basics.{nat_lt, nat_le, flat_map, filter_map, drop, option_eq, option_map, cons_option, list_any, nat_cmp, eq_by_cmp, match_ordering, IsTotalOrder, tied_itself, nat_cmp_total, and_from, In, in_from, contains_from, same_bytes_decides, same_cut_decides, processes_total, processes_exact, reports_total, reports_exact, tie_decides}
use Rattle.std.specs.declared.cmp.Ordering.{Ordering}
use Rattle.std.specs.BTreeSet.{insert_key}
use Rattle.sha2.specs.Sha256.{sha256, digest_bytes, hash_after, compress, rounds, schedule, first_words}
use Rattle.std.specs.FinSet as set
use Rattle.std.specs.FinMap as finmap
use Rattle.rapid_model.specs.InOrder.{in_order}
use Rattle.rapid_safety.proofs.Values.{Process, ProcessSet, endpoint, process_cmp, same_bytes, is_in, Cut, cut_cmp, same_cut, configuration_id, stamp, is_member, Configuration, apply, Observers, ring_key, ring_observer, observers_of, observes, Alert, Join, fast_ballot, Body, Safe, ConfigurationChanged, TooManyJoiners, Batch, FastVote, Decision, PreJoin, Reply, JoinRequest, Confirm, item_of}
use Rattle.rapid_safety.proofs.Parts.{Raised, OldConfiguration, WrongObserver, after_raising, raise, empty_outbox, Report, Reports, report_cmp, tally, reports, subjects, is_stable, is_unstable, cut_if, cut_of, empty_detector, is_taken, with_alerts, batch_cut, after_batch, FastRound, fresh_round, count_of, one_more, hear_vote, fast_decision, fresh_acceptor, accepts, accept_answer, after_accept, HostAnswer, Nothing, Replies, Confirms, Raises, pre_join, join_request, pending_after, is_full_for, observers_for, confirms, fresh_joiner, after_tick}
use Rattle.rapid_safety.proofs.Working.{Node, Member, Removed, MemberState, To, Others, Effect, Says, Proposes, Outcome, Tick, Receive, fresh_member, seed_node, Joining, joiner_node, Work, still, and_then, after_effects, vote_seen, raise_alert, cast_vote, propose, take_batch, clock_moved, next_ages, echo, unstable_now, aged, repeats, send_alerts, sends_batch, recovers, quiet_tick, batch_tick, on_tick, take, receive_as_member, raise_join, answer_to, sends, decision_to, catch_up, receive_as_joiner, joins_on, install, settle, node_step}
use Rattle.rapid_safety.proofs.Worlds.{World, Peer, Act, Took, Ticked, Installed, Entry, MarkedEvent, added, started, settled, moved, hands, world_step, HasLeft, run, founded, Sent, sent, NoCollision}
use Rattle.rapid_model.proofs.Closure.{least_closed}
use Rattle.rapid_model.proofs.Rounds.{hear_vote-new, count_of-one_more}
use Rattle.rapid_safety.specs.Examples.{other, host, guest, two, three, guest_asks, guest_run}
use Rattle.rapid_safety.proofs.Atoms.{message}
use Rattle.rapid_safety.proofs.Members.{of_map}
use Rattle.rapid_model.proofs.Lists.{count_cons, in_any}

-- ---- sets of one

no_items : {K : Type 0} (t : K → K → Bool) → ((q : K) → t q q ≡ true) → (xs : List K) → ((q : K) → list_any (t q) xs ≡ false) → xs ≡ []
no_items t itself [] h = refl
no_items t itself (x ∷ xs) h = let wrong : true ≡ false = sym (ap (λ b. b || list_any (t x) xs) (itself x)) ∙ h x in cc

module _ {K : Type 0} {R : K → K → Ordering} (o : IsTotalOrder R) (exact : set.IsAntisymmetric R) where
  itself : (q : K) → eq_by_cmp R q q ≡ true
  itself q = (tie_decides o exact q q).1 refl

  pub items_none : set.items (set.empty {R = R}) ≡ []
  items_none = no_items (eq_by_cmp R) itself (set.items (set.empty {R = R})) (λ q. sym (set.contains-items (set.empty {R = R}) q) ∙ set.contains-empty R q)

  contains_one : (k q : K) → set.contains (set.insert (set.empty {R = R}) k) q ≡ (eq_by_cmp R q k || false)
  contains_one k q = set.contains-insert o set.empty k q ∙ ap (λ b. eq_by_cmp R q k || b) (set.contains-empty R q)

  pub one_in : (k : K) → set.contains (set.insert (set.empty {R = R}) k) k ≡ true
  one_in k = contains_one k k ∙ ap (λ b. b || false) (itself k)

  pub items_one : (k x : K) → In (set.items (set.insert (set.empty {R = R}) k)) x → x ≡ k
  items_one k x h =
      by (eq_by_cmp R x k) refl (sym (contains_one k x) ∙ set.contains-items (set.insert (set.empty {R = R}) k) x ∙ in_any (eq_by_cmp R x) (set.items (set.insert (set.empty {R = R}) k)) x h (itself x))
    where
      by : (b : Bool) → eq_by_cmp R x k ≡ b → (b || false) ≡ true → x ≡ k
      by true e g = (tie_decides o exact x k).0 e
      by false e g = cc

  pub items_some : (k : K) → set.items (set.insert (set.empty {R = R}) k) ≡ [] → ⊥
  items_some k e =
      let h : list_any (eq_by_cmp R k) (set.items (set.insert (set.empty {R = R}) k)) ≡ true = sym (set.contains-items (set.insert (set.empty {R = R}) k) k) ∙ one_in k in
      let wrong : false ≡ true = sym (ap (list_any (eq_by_cmp R k)) e) ∙ h in cc

all_one : (k : Process) (xs : List Process) → ((x : Process) → In xs x → x ≡ k) → (xs ≡ [] → ⊥) → in_order process_cmp xs ≡ k ∷ []
all_one k [] h some = absurd (some refl)
all_one k (x ∷ []) h some = ap (λ y. y ∷ []) (h x (inl refl))
all_one k (x ∷ y ∷ ys) h some =
    ap₂ (λ l z. insert_key process_cmp l z) (all_one k (y ∷ ys) (λ z i. h z (inr i)) (λ e. cc)) (h x (inl refl))
    ∙ ap (λ r. match_ordering r (k ∷ k ∷ []) (k ∷ []) (k ∷ k ∷ [])) (tied_itself processes_total k)

map_some : {A B : Type 0} (f : A → B) (xs : List A) → (xs ≡ [] → ⊥) → map f xs ≡ [] → ⊥
map_some f [] h e = h refl
map_some f (x ∷ xs) h e = cc

-- the reports on nobody
pub subjects_none : subjects set.empty ≡ []
unfolding subjects
subjects_none = ap (λ xs. in_order process_cmp (map (λ (x : Report). x.0) xs)) (items_none reports_total reports_exact)

-- one report
abbrev one : Reports
one = set.insert set.empty (guest, 0)

subjects_one : subjects one ≡ guest ∷ []
unfolding subjects
subjects_one =
    all_one guest (map (λ (x : Report). x.0) (set.items one))
    (λ q h. let r = of_map (λ (x : Report). x.0) (set.items one) q h in sym r.2 ∙ ap (λ (x : Report). x.0) (items_one reports_total reports_exact (guest, 0) r.0 r.1))
    (map_some (λ (x : Report). x.0) (set.items one) (items_some reports_total reports_exact (guest, 0)))

union_is : with_alerts set.empty (record { observer = host; subject = guest; ring = 0; kind = Join; config = configuration_id two } ∷ []) ≡ one
union_is = set.same_set reports_total reports_exact _ one (λ q. set.contains-union reports_total set.empty one q ∙ ap (λ b. b || set.contains one q) (set.contains-empty report_cmp q))

-- ---- the host observes the guest

abbrev pub id : List ℕ
id = configuration_id two

abbrev pub t : Observers
t = observers_of two

observer_is : ring_observer (other ∷ host ∷ []) 0 guest ≡ Some host
unfolding ring_key sha256 digest_bytes hash_after compress rounds schedule first_words
observer_is = refl

observed : t.observer 0 guest ≡ Some host
unfolding observers_of
observed = observer_is

observers_are : observers_for two guest ≡ host ∷ []
unfolding observers_of
observers_are = ap (λ o. cons_option o []) observer_is

observes_it : observes t host 0 guest ≡ true
observes_it = ap (λ o. option_eq same_bytes o (Some host)) observed

pub id_itself : same_bytes id id ≡ true
id_itself = (same_bytes_decides id id).1 refl

room : is_full_for set.empty guest ≡ false
room = ap (λ b. not b && not (nat_lt (set.len (set.empty {R = process_cmp})) 512)) (set.contains-empty process_cmp guest) ∙ ap (λ n. not (nat_lt n 512)) (set.len-empty process_cmp)

-- ---- the host's answers

answer_pre : pre_join two set.empty guest ≡ Replies (Safe id (host ∷ []))
unfolding pre_join
answer_pre = ap (λ b. cond b (Replies TooManyJoiners) (Replies (Safe id (observers_for two guest)))) room ∙ ap (λ os. Replies (Safe id os)) observers_are

answer_request : join_request two host set.empty guest id 0 ≡ Raises
unfolding join_request
answer_request =
    ap (λ b. cond (not b) (Replies ConfigurationChanged) (cond (not (observes t host 0 guest)) Nothing (cond (is_full_for set.empty guest) (Replies TooManyJoiners) Raises))) id_itself
    ∙ ap (λ b. cond (not b) Nothing (cond (is_full_for set.empty guest) (Replies TooManyJoiners) Raises)) observes_it
    ∙ ap (λ b. cond b (Replies TooManyJoiners) Raises) room

-- the alert
abbrev pub report : Alert
report = record { observer = host; subject = guest; ring = 0; kind = Join; config = id }

raised : raise t host empty_outbox report ≡ record { raised = report ∷ []; flushed = 0 }
unfolding observers_of
raised =
    ap (λ b. after_raising (cond (not b) OldConfiguration (cond (not (observes t host 0 guest)) WrongObserver Raised)) empty_outbox report) id_itself
    ∙ ap (λ b. after_raising (cond (not b) WrongObserver Raised) empty_outbox report) observes_it

-- ---- the host's node

abbrev s0 : MemberState
s0 = fresh_member two host

abbrev pub n0 : Node
n0 = seed_node two host

abbrev pub waiting : ProcessSet
waiting = set.insert set.empty guest

abbrev s1 : MemberState
s1 = record s0 { outbox = record { raised = report ∷ []; flushed = 0 }; pending = waiting }

abbrev pub n1 : Node
n1 = record n0 { phase = Member s1 }

abbrev hosted : ℕ → HostAnswer → Option Outcome
hosted k a =
    Some (record {
      node = record n0 { phase = Member (raise_join (record s0 { pending = pending_after a s0.pending guest }) guest k a) };
      effects = answer_to guest a;
    })

pub node_pre : node_step n0 (Receive (message guest PreJoin)) ≡ Some (record { node = n0; effects = Says (To (endpoint guest)) (Reply guest (Safe id (host ∷ []))) ∷ [] })
unfolding node_step receive_as_member fresh_member settle
node_pre = ap (hosted 0) answer_pre

pub node_request : node_step n0 (Receive (message guest (JoinRequest id 0))) ≡ Some (record { node = n1; effects = [] })
unfolding node_step receive_as_member fresh_member settle raise_alert observers_of
node_request = ap (hosted 0) answer_request ∙ ap (λ o. Some (record { node = record n0 { phase = Member (record s0 { pending = waiting; outbox = o }) }; effects = [] })) raised

-- ---- the cut

in_reports : set.contains (reports t one) (guest, 0) ≡ true
unfolding observers_of
in_reports = (least_closed t one (omega arith)).includes (guest, 0) (one_in reports_total reports_exact (guest, 0))

tally_one : tally t (reports t one) guest ≡ 1
unfolding observers_of
tally_one = count_cons (λ k. set.contains (reports t one) (guest, k)) 0 [] ∙ ap (λ b. cond b 1 0 + 0) in_reports

cut_is : cut_of t one ≡ Some (guest ∷ [])
unfolding observers_of
cut_is =
    ap (λ ss. cut_if (filter (is_stable t (reports t one)) ss) (filter (is_unstable t (reports t one)) ss)) subjects_one
    ∙ ap (λ n. cut_if (cond (nat_le 1 n) (guest ∷ []) []) (cond (nat_le 1 n && nat_lt n 1) (guest ∷ []) [])) tally_one

is_taken_here : is_taken t set.empty report ≡ true
unfolding observers_of
is_taken_here =
    and_from _ _ (and_from _ _ (and_from _ _ (and_from _ _ refl observes_it) id_itself) refl)
    (ap (λ ss. is_in (filter (λ s. not (is_member two s)) ss) guest || nat_lt (length (filter (λ s. not (is_member two s)) ss)) 512) subjects_none)

batch_is : batch_cut t empty_detector (report ∷ []) ≡ Some (guest ∷ [])
unfolding batch_cut
batch_is = ap (λ b. cut_of t (with_alerts set.empty (cond b (report ∷ []) []))) is_taken_here ∙ ap (cut_of t) union_is ∙ cut_is

-- ---- votes

abbrev pub v : Cut
v = guest ∷ []

-- the first of two votes decides nothing
pub first_vote_is : (k : ℕ) → fast_decision (fresh_round 2) k v ≡ None
unfolding fast_decision
first_vote_is k =
    ap (λ b. cond b None (cond (unwrap_or (finmap.get (finmap.empty {R = cut_cmp}) v) 0 + 1 == 2) (Some v) None)) (set.contains-empty nat_cmp k)
    ∙ ap (λ o. cond (unwrap_or o 0 + 1 == 2) (Some v) None) (finmap.get-empty cut_cmp v)

-- the round of the host after its own vote
abbrev pub voted_first : FastRound
voted_first = hear_vote (fresh_round 2) 1 v

abbrev counted : FastRound
counted = record { size = 2; heard = set.insert set.empty 1; counts = one_more finmap.empty v }

not_yet : set.contains (set.insert (set.empty {R = nat_cmp}) 1) 0 ≡ false
not_yet = set.contains-insert nat_cmp_total set.empty 1 0 ∙ set.contains-empty nat_cmp 0

one_counts : count_of (one_more (finmap.empty {R = cut_cmp}) v) v ≡ 1
one_counts =
    count_of-one_more finmap.empty v v ∙ ap (λ o. unwrap_or o 0 + cond (same_cut v v) 1 0) (finmap.get-empty cut_cmp v)
    ∙ ap (λ b. 0 + cond b 1 0) ((same_cut_decides v v).1 refl)

counted_decides : fast_decision counted 0 v ≡ Some v
unfolding fast_decision
counted_decides = ap (λ b. cond b None (cond (count_of (one_more (finmap.empty {R = cut_cmp}) v) v + 1 == 2) (Some v) None)) not_yet ∙ ap (λ n. cond (n + 1 == 2) (Some v) None) one_counts

-- and the second decides
second_vote_is : fast_decision voted_first 0 v ≡ Some v
second_vote_is = ap (λ f. fast_decision f 0 v) (hear_vote-new (fresh_round 2) 1 v (set.contains-empty nat_cmp 1)) ∙ counted_decides

-- ---- the host's tick

-- the host after its clock moved, after its batch went out, when it proposes, when it votes and after its vote
abbrev s2 : MemberState
s2 = record s1 { tick = 1; ages = finmap.empty }

abbrev s3 : MemberState
s3 = record s2 { outbox = record { raised = report ∷ []; flushed = 1 } }

abbrev s4 : MemberState
s4 = record s3 { detector = after_batch t empty_detector (report ∷ []) }

abbrev s5 : MemberState
s5 = record s4 { proposal = Some v }

abbrev s6 : MemberState
s6 = record (vote_seen s5) { acceptor = after_accept fresh_acceptor fast_ballot v; voted = true }

abbrev pub s7 : MemberState
s7 = record (vote_seen s6) { fast = voted_first }

abbrev pub n2 : Node
n2 = record n0 { phase = Member s7 }

unstable_none : unstable_now (clock_moved s1) ≡ []
unfolding unstable_now fresh_member
unstable_none = ap (filter (is_unstable t (reports t set.empty))) subjects_none

aged_is : aged (clock_moved s1) ≡ s2
unfolding aged fresh_member
aged_is = ap (λ us. echo (record (clock_moved s1) { ages = next_ages (clock_moved s1).ages us }) us) unstable_none

quiet_is : quiet_tick s1 ≡ still s2
unfolding quiet_tick repeats fresh_member
quiet_is = ap repeats aged_is

-- the batch and the vote
abbrev pub batch : Body
batch = Batch id (item_of report ∷ [])

abbrev pub vote : Body
vote = FastVote id v

abbrev pub done : List Effect
done = Says Others batch ∷ Proposes v ∷ Says Others vote ∷ []

abbrev voted : Option Cut → Work
voted d = record { state = s7; effects = done; decided = d }

batch_goes : sends_batch s2 ≡ after_effects (Says Others batch ∷ []) (propose s4 (Some v))
unfolding sends_batch send_alerts take_batch fresh_member
batch_goes = ap (λ o. after_effects (Says Others batch ∷ []) (propose s4 o)) batch_is

work_is : on_tick s1 ≡ voted None
unfolding on_tick batch_tick recovers fresh_member propose cast_vote accepts accept_answer
work_is =
    ap (λ w. and_then (and_then w sends_batch) recovers) quiet_is
    ∙ ap (λ w. and_then (after_effects [] w) recovers) (batch_goes ∙ ap voted (first_vote_is 1))

pub node_ticks : node_step n1 Tick ≡ Some (record { node = n2; effects = done })
unfolding node_step settle
node_ticks = ap (settle n1) work_is

-- ---- the other member hears the batch

abbrev pub q0 : MemberState
q0 = fresh_member two other

abbrev q1 : MemberState
q1 = record q0 { detector = after_batch t empty_detector (report ∷ []) }

abbrev q2 : MemberState
q2 = record q1 { proposal = Some v }

abbrev q3 : MemberState
q3 = record (vote_seen q2) { acceptor = after_accept fresh_acceptor fast_ballot v; voted = true }

abbrev q4 : MemberState
q4 = record (vote_seen q3) { fast = hear_vote (fresh_round 2) 0 v }

abbrev pub m0 : Node
m0 = seed_node two other

abbrev pub m1 : Node
m1 = record m0 { phase = Member q4 }

abbrev pub votes : List Effect
votes = Proposes v ∷ Says Others vote ∷ []

abbrev voted_too : Option Cut → Work
voted_too d = record { state = q4; effects = votes; decided = d }

takes_batch : take_batch q0 (report ∷ []) ≡ voted_too None
unfolding take_batch fresh_member propose cast_vote accepts accept_answer
takes_batch = ap (propose q1) batch_is ∙ ap voted_too (first_vote_is 0)

hears_batch : receive_as_member [] q0 host batch ≡ voted_too None
unfolding receive_as_member take fresh_member
hears_batch = ap (λ b. cond b (take_batch q0 (report ∷ [])) (sends q0 (catch_up [] host (Some id)))) id_itself ∙ takes_batch

pub node_batch : node_step m0 (Receive (message host batch)) ≡ Some (record { node = m1; effects = votes })
unfolding node_step settle
node_batch = ap (settle m0) hears_batch

-- ---- the host hears the vote and installs

abbrev s8 : MemberState
s8 = record (vote_seen s7) { fast = hear_vote voted_first 0 v }

abbrev decided : Option Cut → Work
decided d = record { state = s8; effects = []; decided = d }

hears_vote : receive_as_member [] s7 other vote ≡ decided (Some v)
unfolding receive_as_member take fresh_member
hears_vote = ap (λ b. cond b (decided (fast_decision voted_first 0 v)) (sends s7 (catch_up [] other (Some id)))) id_itself ∙ ap decided second_vote_is

pub other_in : is_member three other ≡ true
unfolding apply
other_in = refl

pub host_in : is_member three host ≡ true
unfolding apply
host_in = refl

pub guest_in : is_member three guest ≡ true
unfolding apply
guest_in = refl

pub confirms_it : confirms three waiting ≡ (guest, Confirms three) ∷ []
unfolding confirms
confirms_it =
    ap (map (λ j. (j, cond (is_member three j) (Confirms three) (Replies ConfigurationChanged)))) (all_one guest (set.items waiting) (items_one processes_total processes_exact guest) (items_some processes_total processes_exact guest))
    ∙ ap (λ b. (guest, cond b (Confirms three) (Replies ConfigurationChanged)) ∷ []) guest_in

pub confirms_none : confirms three set.empty ≡ []
unfolding confirms
confirms_none = ap (λ xs. map (λ j. (j, cond (is_member three j) (Confirms three) (Replies ConfigurationChanged))) (in_order process_cmp xs)) (items_none processes_total processes_exact)

-- a member of both in the next configuration
abbrev entered : Process → Node
entered p = record { me = p; phase = Member (fresh_member three p); installed = stamp two ∷ stamp three ∷ []; decisions = (id, v) ∷ [] }

abbrev pub n3 : Node
n3 = entered host

abbrev pub m2 : Node
m2 = entered other

abbrev pub installed_by : Process → Bool → List (Process × HostAnswer) → Option Outcome
installed_by p b ys =
    Some (record {
      node = record (entered p) { phase = cond b (Member (fresh_member three p)) (Removed three) };
      effects = flat_map (λ (x : Process × HostAnswer). answer_to x.0 x.1) ys;
    })

pub node_vote : node_step n2 (Receive (message other vote)) ≡ Some (record { node = n3; effects = Says (To (endpoint guest)) (Confirm three) ∷ [] })
unfolding node_step settle install fresh_member
node_vote = ap (settle n2) hears_vote ∙ ap (λ b. installed_by host b (confirms three waiting)) host_in ∙ ap (installed_by host true) confirms_it

-- ---- the vote comes again, and is answered with the decision

pub ids_differ : same_bytes (configuration_id two) (configuration_id three) ≡ false
unfolding configuration_id apply sha256 digest_bytes hash_after compress rounds schedule first_words
ids_differ = refl

abbrev pub decision : Body
decision = Decision id v

abbrev answered : Option Cut → Option Outcome
answered o = Some (record { node = n3; effects = decision_to other id o })

pub node_again : node_step n3 (Receive (message other vote)) ≡ Some (record { node = n3; effects = Says (To (endpoint other)) decision ∷ [] })
unfolding node_step receive_as_member settle fresh_member
node_again =
    ap (λ b. settle n3 (cond b (take (fresh_member three host) other vote) (sends (fresh_member three host) (catch_up ((id, v) ∷ []) other (Some id))))) ids_differ
    ∙ ap (λ b. answered (option_map (λ (d : List ℕ × Cut). d.1) (cond b (Some (id, v)) None))) id_itself

-- ---- the other member hears the decision

left : Work
left = record { state = q4; effects = []; decided = Some v }

hears_decision : receive_as_member [] q4 host decision ≡ left
unfolding receive_as_member take fresh_member left
hears_decision = ap (λ b. cond b left (still q4)) id_itself

pub node_decision : node_step m1 (Receive (message host decision)) ≡ Some (record { node = m2; effects = [] })
unfolding node_step settle install fresh_member left
node_decision = ap (settle m1) hears_decision ∙ ap (λ b. installed_by other b (confirms three set.empty)) other_in ∙ ap (installed_by other true) confirms_none

-- ---- the run in which a guest joins two founders, one of which catches up

-- the guest before its first tick and after it
abbrev j0 : Node
j0 = joiner_node guest (endpoint host)

abbrev pub j1 : Node
j1 = record j0 { phase = Joining (after_tick (fresh_joiner (endpoint host))) }

abbrev pub out : Node → List Rattle.rapid_model.specs.Node.Effect → Outcome
out n es = record { node = n; effects = es }

-- ---- the worlds

abbrev w0 : World
w0 = founded two

abbrev w1 : World
w1 = started w0 guest (endpoint host)

abbrev w2 : World
w2 = moved w1 2 (added j0) (Ticked ∷ []) (out j1 (Says (To (endpoint host)) PreJoin ∷ []))

abbrev w3 : World
w3 = moved w2 1 (added n0) (Took (message guest PreJoin) ∷ []) (out n0 (Says (To (endpoint guest)) (Reply guest (Safe id (host ∷ []))) ∷ []))

abbrev w4 : World
w4 = moved w3 2 (added j1) (Took (message host (Reply guest (Safe id (host ∷ [])))) ∷ []) (out j1 (Says (To (endpoint host)) (JoinRequest id 0) ∷ []))

abbrev w5 : World
w5 = moved w4 1 (added n0) (Took (message guest (JoinRequest id 0)) ∷ []) (out n1 [])

abbrev pub w6 : World
w6 = moved w5 1 (added n1) (Ticked ∷ []) (out n2 done)

abbrev w7 : World
w7 = moved w6 0 (added m0) (Took (message host batch) ∷ []) (out m1 votes)

abbrev w8 : World
w8 = moved w7 1 (added n2) (Took (message other vote) ∷ []) (out n3 (Says (To (endpoint guest)) (Confirm three) ∷ []))

abbrev w9 : World
w9 = moved w8 1 (added n3) (Took (message other vote) ∷ []) (out n3 (Says (To (endpoint other)) decision ∷ []))

abbrev w10 : World
w10 = moved w9 0 (added m1) (Took (message host decision) ∷ []) (out m2 [])

abbrev w11 : World
w11 = moved w10 2 (added j1) (Took (message host (Confirm three)) ∷ []) (out (seed_node three guest) [])

-- ---- the steps

pub node_joins : node_step j1 (Receive (message host (Confirm three))) ≡ Some (out (seed_node three guest) [])
unfolding node_step receive_as_joiner
node_joins = ap (λ b. Some (cond b (out (seed_node three guest) []) (joins_on j1 (after_tick (fresh_joiner (endpoint host))) []))) guest_in

-- the events of the asking after the first, and then others
abbrev from : ℕ → List MarkedEvent → List MarkedEvent
from n rest = drop n guest_asks ++ rest

pub asked_is : (rest : List MarkedEvent) → run (guest_asks ++ rest) (founded two) ≡ run rest w6
unfolding world_step hands node_step receive_as_joiner
asked_is rest =
    ap (run (from 3 rest)) (ap (settled w2 1 (added n0) (Took (message guest PreJoin) ∷ [])) node_pre) ∙ ap (run (from 5 rest)) (ap (settled w4 1 (added n0) (Took (message guest (JoinRequest id 0)) ∷ [])) node_request)
    ∙ ap (run rest) (ap (settled w5 1 (added n1) (Ticked ∷ [])) node_ticks)

-- the last events of the run
abbrev last : ℕ → List MarkedEvent
last n = drop n guest_run

run_is : run guest_run (founded two) ≡ w11
unfolding world_step hands fresh_member
run_is =
    asked_is (last 6) ∙ ap (run (last 7)) (ap (settled w6 0 (added m0) (Took (message host batch) ∷ [])) node_batch)
    ∙ ap (run (last 8)) (ap (settled w7 1 (added n2) (Took (message other vote) ∷ [])) node_vote) ∙ ap (run (last 9)) (ap (settled w8 1 (added n3) (Took (message other vote) ∷ [])) node_again)
    ∙ ap (run (last 10)) (ap (settled w9 0 (added m1) (Took (message host decision) ∷ [])) node_decision) ∙ ap (settled w10 2 (added j1) (Took (message host (Confirm three)) ∷ [])) node_joins

-- ---- what the three installed

pub all_install : map (λ (p : Peer). p.node.installed) (run guest_run (founded two)).peers ≡ (stamp two ∷ stamp three ∷ []) ∷ (stamp two ∷ stamp three ∷ []) ∷ (stamp three ∷ []) ∷ []
all_install = ap (λ (w : World). map (λ (p : Peer). p.node.installed) w.peers) run_is

-- the host told the decision
pub decision_sent : Sent (run guest_run (founded two)) host (Decision (configuration_id two) (guest ∷ []))
decision_sent = subst (λ w. Sent w host decision) (sym run_is) (contains_from (sent w11) (message host decision) (inr (inr (inr (inr (inr (inr (inr (inl refl)))))))))

-- the configuration of an act that installs
abbrev pub installs_of : Act → Option Configuration
installs_of (Installed c) = Some c
installs_of a = None

log_installs : filter_map (λ (e : Entry). installs_of e.act) w11.log ≡ two ∷ two ∷ three ∷ three ∷ three ∷ []
unfolding fresh_member
log_installs = refl

of_log : (log : List Entry) (e : Entry) (c : Configuration) → In log e → e.act ≡ Installed c → In (filter_map (λ (x : Entry). installs_of x.act) log) c
of_log log e c h is = Rattle.rapid_model.proofs.Lists.in_filter (λ (x : Entry). installs_of x.act) log e c h (ap installs_of is)

one_of : (c : Configuration) → In (two ∷ two ∷ three ∷ three ∷ three ∷ []) c → (two ≡ c) ⊎ (three ≡ c)
one_of c (inl e) = inl e
one_of c (inr (inl e)) = inl e
one_of c (inr (inr (inl e))) = inr e
one_of c (inr (inr (inr (inl e)))) = inr e
one_of c (inr (inr (inr (inr (inl e))))) = inr e
one_of c (inr (inr (inr (inr (inr n))))) = absurd n

apart : configuration_id two ≡ configuration_id three → ⊥
apart e = let t : same_bytes (configuration_id two) (configuration_id three) ≡ true = (same_bytes_decides _ _).1 e in let wrong : true ≡ false = sym t ∙ ids_differ in cc

either : (c d : Configuration) → (two ≡ c) ⊎ (three ≡ c) → (two ≡ d) ⊎ (three ≡ d) → configuration_id c ≡ configuration_id d → c ≡ d
either c d (inl x) (inl y) e = sym x ∙ y
either c d (inl x) (inr y) e = absurd (apart (ap configuration_id x ∙ e ∙ ap configuration_id (sym y)))
either c d (inr x) (inl y) e = absurd (apart (ap configuration_id y ∙ sym e ∙ ap configuration_id (sym x)))
either c d (inr x) (inr y) e = sym x ∙ y

-- a world in which these were installed
pub none_collide : (w : World) → filter_map (λ (e : Entry). installs_of e.act) w.log ≡ two ∷ two ∷ three ∷ three ∷ three ∷ [] → NoCollision w
none_collide w all e f c d he hf ce df =
    either c d (one_of c (subst (λ l. In l c) all (of_log w.log e c (in_from w.log e he) ce))) (one_of d (subst (λ l. In l d) all (of_log w.log f d (in_from w.log f hf) df)))

pub joins_apart : NoCollision (run guest_run (founded two))
joins_apart = subst NoCollision (sym run_is) (none_collide w11 log_installs)

-- ---- both founders leave the configuration of the two for that of the three

pub other_leaves : HasLeft (run guest_run (founded two)) other two three
unfolding fresh_member
other_leaves = subst (λ w. HasLeft w other two three) (sym run_is) ([], [], refl)

pub host_leaves : HasLeft (run guest_run (founded two)) host two three
unfolding fresh_member
host_leaves = subst (λ w. HasLeft w host two three) (sym run_is) ([], [], refl)
