-- What a step makes of a node: it installs nothing, or one configuration, in which it begins anew.
use Rattle.std.proofs.Common.{◌≡◌, ◌⊎◌, ℕ, Bool, true, false, cond, List, [], ◌∷◌, ◌++◌, length, ◌<◌, refl, sym, ap, ◌∙◌, subst, inl, inr, arith}
use Rattle.std.specs.Prelude.{Option, Some, None, ◌||◌, ◌-◌, ◌^◌, not, nat_lt}
use Rattle.rapid_model.specs.Process.{Process, endpoint}
use Rattle.rapid_model.specs.Cut.{Cut}
use Rattle.rapid_model.specs.Configuration.{Configuration, Stamp, stamp, is_member}
use Rattle.rapid_model.specs.Apply.{apply}
use Rattle.rapid_model.specs.Joiner.{Joiner}
use Rattle.rapid_model.specs.Message.{Message, Body, Batch, FastVote, Prepare, Promise, Accept, Accepted, Decision, PreJoin, Reply, JoinRequest, Confirm, Probe, ProbeAck}
use Rattle.rapid_model.specs.Message as message
use Rattle.rapid_model.specs.Node.{Node, Decisions, MemberState, Phase, Joining, Member, Removed, Halted, Event, EdgeDown, Tick, Receive, Leave, Says, To, Outcome, configuration_of, seed_node, fresh_member}
use Rattle.rapid_model.specs.Member.{Work, still, after_effects, current_id}
use Rattle.rapid_model.specs.Tick.{on_tick}
use Rattle.rapid_model.specs.Receive.{take, is_about, receive_as_member, receive_as_joiner, joins_on, sends, catch_up}
use Rattle.rapid_model.specs.NodeStep.{step_tick, step_edge_down, step_receive, step_leave, phase_in, is_history_full, install, put_before, settle_at, settle, node_step}
use Rattle.rapid_model.specs.Journal.{Entered, node_at, is_kept}
use Rattle.rapid_desk.specs.Desks.{no_installs_in, JoinsEmpty}
use Rattle.rapid_desk.proofs.Ticking.{is_kept_event, is_below}

-- the node has just entered a configuration, after these stamps
pub record Enters (before : List Stamp) (m : Node) : Type 0 where
  pub config : Configuration
  pub grew : m.installed ≡ before ++ stamp config ∷ []
  pub fresh : m.phase ≡ phase_in config m.me
  pub room : length before < 65536

-- the node after a step from these stamps
abbrev pub Went : List Stamp → Node → Type 0
Went before m = JoinsEmpty m × ((m.installed ≡ before) ⊎ Enters before m)

abbrev pub Goes : List Stamp → Option Outcome → Type 0
Goes before None = Unit {0}
Goes before (Some o) = Went before o.node

fresh_installs : (c : Configuration) (me : Process) (xs : List Stamp) → no_installs_in (phase_in c me) xs
fresh_installs c me xs = by (is_member c me)
  where
    by : (b : Bool) → no_installs_in (cond b (Member (fresh_member c me)) (Removed c)) xs
    by true = tt
    by false = tt

has_room : (m : ℕ) (b : Bool) → (not (nat_lt m 65536) || b) ≡ false → m < 65536
has_room m b free = by (nat_lt m 65536) refl free
  where
    by : (a : Bool) → nat_lt m 65536 ≡ a → (not a || b) ≡ false → m < 65536
    by true below f = is_below m 65536 below
    by false over f = let wrong : true ≡ false = f in cc

settled : (n : Node) (w : Work) (d : Option Cut) → Goes n.installed (settle_at n w d)
unfolding install
settled n w None = (tt, inl refl)
settled n w (Some v) = by (is_history_full n.installed w.state.config) refl
  where
    by : (b : Bool) → is_history_full n.installed w.state.config ≡ b → Goes n.installed (cond b None (Some (put_before w.effects (install n w.state v))))
    by true full = tt
    by false free = (fresh_installs (apply w.state.config v) n.me _, inr record { config = apply w.state.config v; grew = refl; fresh = refl; room = has_room (length n.installed) (not (nat_lt w.state.config.height (2 ^ 64 - 1))) free })

settles : (n : Node) (w : Work) → Goes n.installed (settle n w)
unfolding settle
settles n w = settled n w w.decided

joined : (n : Node) (j : Joiner) (b : Body) → n.installed ≡ [] → Went n.installed (receive_as_joiner n j b).node
unfolding receive_as_joiner
joined n j (Confirm c) none = by (is_member c n.me) refl
  where
    by : (b : Bool) → is_member c n.me ≡ b → Went n.installed (cond b (record { node = seed_node c n.me; effects = [] }) (joins_on n j [])).node
    by true is = (tt, inr record { config = c; grew = ap (λ l. l ++ stamp c ∷ []) (sym none); fresh = ap (λ b. cond b (Member (fresh_member c n.me)) (Removed c)) (sym is); room = subst (λ l. length l < 65536) (sym none) (omega arith) })
    by false is = (none, inl refl)
joined n j (Reply who a) none = (none, inl refl)
joined n j (Batch id xs) none = (none, inl refl)
joined n j (FastVote id v) none = (none, inl refl)
joined n j (Prepare id b) none = (none, inl refl)
joined n j (Promise id b v) none = (none, inl refl)
joined n j (Accept id b v) none = (none, inl refl)
joined n j (Accepted id b v) none = (none, inl refl)
joined n j (Decision id v) none = (none, inl refl)
joined n j PreJoin none = (none, inl refl)
joined n j (JoinRequest id k) none = (none, inl refl)
joined n j (Probe id) none = (none, inl refl)
joined n j (ProbeAck id) none = (none, inl refl)
joined n j (message.Leave id k) none = (none, inl refl)

goes_tick : (n : Node) → JoinsEmpty n → (p : Phase) → no_installs_in p n.installed → Goes n.installed (step_tick n p)
goes_tick n h (Joining j) q = (q, inl refl)
goes_tick n h (Member s) q = settles n (on_tick s)
goes_tick n h (Removed c) q = (h, inl refl)
goes_tick n h (Halted shown) q = (h, inl refl)

goes_down : (n : Node) → JoinsEmpty n → (p : Phase) (id : List ℕ) (k : ℕ) (x : Process) → Goes n.installed (step_edge_down n p id k x)
goes_down n h (Joining j) id k x = (h, inl refl)
goes_down n h (Member s) id k x = settles n _
goes_down n h (Removed c) id k x = (h, inl refl)
goes_down n h (Halted shown) id k x = (h, inl refl)

goes_receive : (n : Node) → JoinsEmpty n → (p : Phase) → no_installs_in p n.installed → (m : Message) → Goes n.installed (step_receive n p m)
goes_receive n h (Joining j) q m = joined n j m.body q
goes_receive n h (Member s) q m = settles n _
goes_receive n h (Removed c) q m = (h, inl refl)
goes_receive n h (Halted shown) q m = (h, inl refl)

goes_leave : (n : Node) → JoinsEmpty n → (p : Phase) → Goes n.installed (step_leave n p)
goes_leave n h (Joining j) = (h, inl refl)
goes_leave n h (Member s) = settles n _
goes_leave n h (Removed c) = (h, inl refl)
goes_leave n h (Halted shown) = (h, inl refl)

pub goes : (n : Node) (e : Event) → JoinsEmpty n → Goes n.installed (node_step n e)
unfolding node_step
goes n Tick h = goes_tick n h n.phase h
goes n (EdgeDown id k p) h = goes_down n h n.phase id k p
goes n (Receive m) h = goes_receive n h n.phase h m
goes n Leave h = goes_leave n h n.phase

pub went : (n : Node) (e : Event) (o : Outcome) → JoinsEmpty n → node_step n e ≡ Some o → Went n.installed o.node
went n e o h is = subst (Goes n.installed) is (goes n e h)

-- ---- what is not kept

abbrev pub Stays : Node → Option Outcome → Type 0
Stays n None = Unit {0}
Stays n (Some o) = o.node ≡ n

quiet : (n : Node) (s : MemberState) → n.phase ≡ Member s → (w : Work) → w.state ≡ s → w.decided ≡ None → Stays n (settle n w)
unfolding settle
quiet n s is w same none =
    subst (λ d. Stays n (settle_at n w d)) (sym none)
    (λ i. record { me = n.me; phase = (ap Member same ∙ sym is) i; installed = n.installed; decisions = n.decisions })

asked : (n : Node) (s : MemberState) → n.phase ≡ Member s → (from : Process) (b : Body) → is_kept b ≡ false → Stays n (settle n (receive_as_member n.decisions s from b))
unfolding receive_as_member take
asked n s is from (Probe id) h = by (is_about (current_id s) (Some id))
  where
    by : (b : Bool) → Stays n (settle n (after_effects (Says (To (endpoint from)) (ProbeAck (current_id s)) ∷ []) (cond b (still s) (sends s (catch_up n.decisions from (Some id))))))
    by true = quiet n s is _ refl refl
    by false = quiet n s is _ refl refl
asked n s is from (ProbeAck id) h = by (is_about (current_id s) (Some id))
  where
    by : (b : Bool) → Stays n (settle n (cond b (still s) (sends s (catch_up n.decisions from (Some id)))))
    by true = quiet n s is _ refl refl
    by false = quiet n s is _ refl refl
asked n s is from (Batch id xs) h = absurd (cc)
asked n s is from (FastVote id v) h = absurd (cc)
asked n s is from (Prepare id b) h = absurd (cc)
asked n s is from (Promise id b v) h = absurd (cc)
asked n s is from (Accept id b v) h = absurd (cc)
asked n s is from (Accepted id b v) h = absurd (cc)
asked n s is from (Decision id v) h = absurd (cc)
asked n s is from PreJoin h = absurd (cc)
asked n s is from (Reply j a) h = absurd (cc)
asked n s is from (JoinRequest id k) h = absurd (cc)
asked n s is from (Confirm c) h = absurd (cc)
asked n s is from (message.Leave id k) h = absurd (cc)

joiner_asked : (n : Node) (j : Joiner) → n.phase ≡ Joining j → (b : Body) → is_kept b ≡ false → (receive_as_joiner n j b).node ≡ n
unfolding receive_as_joiner
joiner_asked n j is (Probe id) h = λ i. record { me = n.me; phase = sym is i; installed = n.installed; decisions = n.decisions }
joiner_asked n j is (ProbeAck id) h = λ i. record { me = n.me; phase = sym is i; installed = n.installed; decisions = n.decisions }
joiner_asked n j is (Batch id xs) h = absurd (cc)
joiner_asked n j is (FastVote id v) h = absurd (cc)
joiner_asked n j is (Prepare id b) h = absurd (cc)
joiner_asked n j is (Promise id b v) h = absurd (cc)
joiner_asked n j is (Accept id b v) h = absurd (cc)
joiner_asked n j is (Accepted id b v) h = absurd (cc)
joiner_asked n j is (Decision id v) h = absurd (cc)
joiner_asked n j is PreJoin h = absurd (cc)
joiner_asked n j is (Reply k a) h = absurd (cc)
joiner_asked n j is (JoinRequest id k) h = absurd (cc)
joiner_asked n j is (Confirm c) h = absurd (cc)
joiner_asked n j is (message.Leave id k) h = absurd (cc)

heard : (n : Node) (p : Phase) → n.phase ≡ p → (m : Message) → is_kept m.body ≡ false → Stays n (step_receive n p m)
heard n (Joining j) is m h = joiner_asked n j is m.body h
heard n (Member s) is m h = asked n s is m.sender m.body h
heard n (Removed c) is m h = refl
heard n (Halted shown) is m h = refl

stays : (n : Node) (e : Event) → is_kept_event e ≡ false → Stays n (node_step n e)
unfolding node_step
stays n Tick h = absurd (cc)
stays n (EdgeDown id k p) h = absurd (cc)
stays n Leave h = absurd (cc)
stays n (Receive m) h = heard n n.phase refl m h

pub not_kept_stays : (n : Node) (e : Event) (o : Outcome) → is_kept_event e ≡ false → node_step n e ≡ Some o → o.node ≡ n
not_kept_stays n e o h is = subst (Stays n) is (stays n e h)

-- ---- entries

shown_fresh : (c : Configuration) (me : Process) (xs : List Stamp) (ds : Decisions) → configuration_of (node_at (Entered c me xs ds)) ≡ Some c
unfolding fresh_member
shown_fresh c me xs ds = by (is_member c me)
  where
    by : (b : Bool) → configuration_of (record { me = me; phase = cond b (Member (fresh_member c me)) (Removed c); installed = xs; decisions = ds }) ≡ Some c
    by true = refl
    by false = refl

-- the node is at the entry of what it has just entered
pub at_entry : (m : Node) (c : Configuration) → m.phase ≡ phase_in c m.me → node_at (Entered c m.me m.installed m.decisions) ≡ m
at_entry m c is = λ i. record { me = m.me; phase = sym is i; installed = m.installed; decisions = m.decisions }

pub enters_shows : (before : List Stamp) (m : Node) → (h : Enters before m) → configuration_of m ≡ Some h.config
enters_shows before m h = ap configuration_of (sym (at_entry m h.config h.fresh)) ∙ shown_fresh h.config m.me m.installed m.decisions
