-- In every run the life of each member stands in the log.
use Rattle.std.proofs.Common.{◌≡◌, ◌≢◌, ◌⊎◌, ◌<◌, ◌+◌, inl, inr, ℕ, zero, suc, Bool, true, false, cond, not, ◌&&◌, ◌||◌, ◌==◌, List, [], ◌∷◌, ◌++◌, map, refl, sym, ap, subst, ◌∙◌, Option, Some, None, arith, append_assoc, unwrap_or, length, append-nil}
use Rattle.rapid_safety.proofs.Basics.{slice_get, nat_lt, list_any, is_lt, and_parts, or_parts, false_from_ne_true, cond_both, filter_map-append, and-false, same_bytes_decides, In}
use Rattle.rapid_safety.proofs.Values.{Process, identifier, bytes_cmp, same_bytes, is_in, Cut, Configuration, AreMembers, is_member, identifiers_ascend, apply, Message, Body, Reply, Confirm}
use Rattle.rapid_safety.proofs.Parts.{fresh_edge, probed, edge_after, Monitors, Joiner, after_tick, asks_at_tick}
use Rattle.rapid_safety.proofs.Working.{Node, Phase, Joining, Member, Removed, Halted, MemberState, Effect, Outcome, Event, EdgeDown, Receive, member_in, member_config, fresh_member, seed_node, has_installed, halt, receive_as_joiner, joins_on, replied, node_step, step_tick, step_receive, step_edge_down, step_leave, phase_in, question_to, idle}
use Rattle.rapid_safety.proofs.Worlds.{World, Peer, Act, Probed, Installed, HasHalted, Crashed, Entry, Start, MarkedEvent, observed, observed_in, has_identifier, entry, edge_on, with_edge, edges_after, windows_in, acts_of, noted, halted, moved, crashed, added, started, refusal, run, founded, is_act_in, result_on}
use Rattle.rapid_model.specs.Node as node
use Rattle.rapid_safety.proofs.Atoms.{taken_in, message, marks, Lives, enters, does, lives_config}
use Rattle.rapid_safety.proofs.NodeWorks.{length-push, not_below, below_next, Stepped, goes_on, installs}
use Rattle.rapid_safety.proofs.Members.{position_in, not_below_itself}
use Rattle.rapid_safety.proofs.Histories.{acts_at, acts_here, acts_elsewhere, here_from, elsewhere, get_push, push_get, Sees, sees_next, windows_fresh, windows_seen, Bare, NodeNow, PastLife, was_not, was, Lived, lived_next, now_same, results_in, no_results, window_after, now_member, results_acts, Met, meets, comes_steps, halts_life}
use Rattle.rapid_safety.proofs.Steps.{StandsAt, Comes, by_tick, by_packet, by_probe, by_wish, Steps, stays, starts, notes, stops, moves, ends, run_keeps}
use Rattle.rapid_model.proofs.Lists.{all_at}
use Rattle.std.proofs.lemmas.Option.{same_Some}
use Rattle.std.proofs.lemmas.Bool.{or_right}

-- ---- what a step makes of a node that is no member

-- a node that joins goes on joining, or enters a configuration
pub data JoinerSteps (n : Node) : Event → Outcome → Type 0 where
  joins_still : (e : Event) (j : Joiner) (es : List Effect) → JoinerSteps n e (record { node = record n { phase = Joining j }; effects = es })
  joins : (from : Process) (c : Configuration) → is_member c n.me ≡ true → JoinerSteps n (Receive (message from (Confirm c))) (record { node = seed_node c n.me; effects = [] })

module _ (n : Node) (j : Joiner) (joining : n.phase ≡ Joining j) where
  as_joiner : record n { phase = Joining j } ≡ n
  as_joiner = λ i. record { me = n.me; phase = sym joining i; installed = n.installed; decisions = n.decisions }

  still : (e : Event) (es : List Effect) (o : Outcome) → Some (record { node = record n { phase = Joining j }; effects = es }) ≡ Some o → JoinerSteps n e o
  still e es o h = let same : record { node = record n { phase = Joining j }; effects = es } ≡ o = cc in subst (JoinerSteps n e) same (joins_still e j es)

  confirmed : (from : Process) (c : Configuration) (b : Bool) (o : Outcome) → is_member c n.me ≡ b →
      Some (cond b (record { node = seed_node c n.me; effects = [] }) (joins_on n j [])) ≡ Some o → JoinerSteps n (Receive (message from (Confirm c))) o
  confirmed from c true o e h = let same : record { node = seed_node c n.me; effects = [] } ≡ o = cc in subst (JoinerSteps n (Receive (message from (Confirm c)))) same (joins from c e)
  confirmed from c false o e h = still (Receive (message from (Confirm c))) [] o h

  receives : (from : Process) (b : Body) (o : Outcome) → Some (receive_as_joiner n j b) ≡ Some o → JoinerSteps n (Receive (message from b)) o
  unfolding receive_as_joiner
  receives from (Reply who a) o h = still _ (replied n j who a) o h
  receives from (Confirm c) o h = confirmed from c (is_member c n.me) o refl h
  receives from b o h = still _ [] o h

  ticks_on : (o : Outcome) → Some (record { node = record n { phase = Joining (after_tick j) }; effects = question_to (asks_at_tick j) }) ≡ Some o → JoinerSteps n node.Tick o
  ticks_on o h = let same : record { node = record n { phase = Joining (after_tick j) }; effects = question_to (asks_at_tick j) } ≡ o = cc in subst (JoinerSteps n node.Tick) same (joins_still node.Tick (after_tick j) (question_to (asks_at_tick j)))

  idles : (e : Event) (o : Outcome) → Some (idle n) ≡ Some o → JoinerSteps n e o
  idles e o h =
      let same : idle n ≡ o = cc in
      subst (JoinerSteps n e) same (subst (λ (m : Node). JoinerSteps n e (record { node = m; effects = [] })) as_joiner (joins_still e j []))

  pub joiner_steps : (e : Event) (o : Outcome) → node_step n e ≡ Some o → JoinerSteps n e o
  unfolding node_step
  joiner_steps (EdgeDown id k p) o h = idles (EdgeDown id k p) o (subst (λ (x : Phase). step_edge_down n x id k p ≡ Some o) joining h)
  joiner_steps node.Tick o h = ticks_on o (subst (λ (x : Phase). step_tick n x ≡ Some o) joining h)
  joiner_steps node.Leave o h = idles node.Leave o (subst (λ (x : Phase). step_leave n x ≡ Some o) joining h)
  joiner_steps (Receive m) o h = receives m.sender m.body o (subst (λ (x : Phase). step_receive n x m ≡ Some o) joining h)

-- a node that was removed or has halted stays as it is
abbrev pub IsOut : Phase → Type 0
IsOut (Removed c) = Unit {0}
IsOut (Halted c) = Unit {0}
IsOut ph = ⊥

pub stays_out_of : (n : Node) (ph : Phase) (e : Event) (o : Outcome) → IsOut ph → n.phase ≡ ph → node_step n e ≡ Some o → o.node ≡ n
unfolding node_step
stays_out_of n (Removed c) (EdgeDown id k p) o out at h = let g : Some (idle n) ≡ Some o = subst (λ (x : Phase). step_edge_down n x id k p ≡ Some o) at h in cc
stays_out_of n (Removed c) node.Tick o out at h = let g : Some (idle n) ≡ Some o = subst (λ (x : Phase). step_tick n x ≡ Some o) at h in cc
stays_out_of n (Removed c) node.Leave o out at h = let g : Some (idle n) ≡ Some o = subst (λ (x : Phase). step_leave n x ≡ Some o) at h in cc
stays_out_of n (Removed c) (Receive m) o out at h =
    let g = subst (λ (x : Phase). step_receive n x m ≡ Some o) at h in
    ap (λ (x : Outcome). x.node) (sym (same_Some _ _ g))
stays_out_of n (Halted c) (EdgeDown id k p) o out at h = let g : Some (idle n) ≡ Some o = subst (λ (x : Phase). step_edge_down n x id k p ≡ Some o) at h in cc
stays_out_of n (Halted c) node.Tick o out at h = let g : Some (idle n) ≡ Some o = subst (λ (x : Phase). step_tick n x ≡ Some o) at h in cc
stays_out_of n (Halted c) node.Leave o out at h = let g : Some (idle n) ≡ Some o = subst (λ (x : Phase). step_leave n x ≡ Some o) at h in cc
stays_out_of n (Halted c) (Receive m) o out at h = let g : Some (idle n) ≡ Some o = subst (λ (x : Phase). step_receive n x m ≡ Some o) at h in cc
stays_out_of n ph e o out at h = absurd out

-- ---- who enters a configuration

pub enters_fresh : (log : List Entry) (c : Configuration) (me : Process) → is_member c me ≡ true → acts_at log me c ≡ [] → ((d : Configuration) → c.height < d.height → acts_at log me d ≡ []) → NodeNow log me (windows_in (Some c) me) (Member (fresh_member c me))
unfolding fresh_member
enters_fresh log c me member none above =
    let at = position_in me c.members member in
    record {
      heard = [];
      life = subst (λ a. Lives c me a [] (fresh_member c me) None) (sym none) (unfold fresh_member in enters at.0 at.1);
      sync = ap (taken_in me) (sym none);
      fresh = above;
      windows = λ k. windows_fresh c me k ∙ ap (λ a. edge_after fresh_edge (results_in k a)) (sym none);
      sees = windows_seen c me;
    }

-- ---- a member's node after a step

-- it goes on in its configuration
goes_now : (log : List Entry) (n : Node) (s t : MemberState) (xs : List Act) (edges : Monitors) (heard : List Message) → n.phase ≡ Member s →
    Lives s.config n.me (acts_at log n.me s.config ++ xs) heard t None → heard ≡ taken_in n.me (acts_at log n.me s.config ++ xs) →
    ((d : Configuration) → s.config.height < d.height → acts_at log n.me d ≡ []) →
    ((k : ℕ) → edge_on edges k ≡ edge_after fresh_edge (results_in k (acts_at log n.me s.config ++ xs))) → Sees s.config n.me edges →
    NodeNow (log ++ map (entry n) xs) n.me edges (Member t)
goes_now log n s t xs edges heard member life sync fresh windows sees =
    let new = log ++ map (entry n) xs in
    let me = n.me in
    let here : acts_at new me s.config ≡ acts_at log me s.config ++ xs = acts_here log me s.config n xs (here_from s.config n (ap member_config member)) in
    let e : s.config ≡ t.config = sym (lives_config s.config me _ heard t None life) in
    record {
      heard = heard;
      life = subst (λ d. Lives d me (acts_at new me d) heard t None) e (subst (λ a. Lives s.config me a heard t None) (sym here) life);
      sync = subst (λ d. heard ≡ taken_in me (acts_at new me d)) e (sync ∙ ap (taken_in me) (sym here));
      fresh = λ d above.
          let up : s.config.height < d.height = subst (λ x. x.height < d.height) (sym e) above in
          acts_elsewhere log me d n xs (elsewhere me d n (λ _ h. let same : s.config ≡ d = same_Some _ _ (sym (ap member_config member) ∙ h) in let x : d.height < d.height = subst (λ (y : Configuration). y.height < d.height) same up in omega arith))
          ∙ fresh d up;
      windows = λ k. subst (λ d. edge_on edges k ≡ edge_after fresh_edge (results_in k (acts_at new me d))) e (windows k ∙ ap (λ a. edge_after fresh_edge (results_in k a)) (sym here));
      sees = subst (λ d. Sees d me edges) e sees;
    }

-- what it did there is its life
past_now : (log : List Entry) (n : Node) (s t : MemberState) (d : Option Cut) (xs : List Act) (heard : List Message) → n.phase ≡ Member s →
    Lives s.config n.me (acts_at log n.me s.config ++ xs) heard t d → (c : Configuration) → member_in n ≡ Some c → PastLife (log ++ map (entry n) xs) n.me c
past_now log n s t d xs heard member life c in_c =
    let same : s.config ≡ c = same_Some _ _ (sym (ap member_config member) ∙ in_c) in
    subst (PastLife (log ++ map (entry n) xs) n.me) same
    (was heard t d (subst (λ a. Lives s.config n.me a heard t d) (sym (acts_here log n.me s.config n xs (here_from s.config n (ap member_config member)))) life))

-- a node that is no member does nothing anywhere
nothing_there : (log : List Entry) (n : Node) (xs : List Act) → member_in n ≡ None → (c : Configuration) → acts_at (log ++ map (entry n) xs) n.me c ≡ acts_at log n.me c
nothing_there log n xs none c = acts_elsewhere log n.me c n xs (elsewhere n.me c n (λ _ h. let e : None ≡ Some c = sym none ∙ h in cc))

no_past : (log : List Entry) (n : Node) → member_in n ≡ None → (c : Configuration) → member_in n ≡ Some c → PastLife log n.me c
no_past log n none c h = let e : None ≡ Some c = sym none ∙ h in cc

-- ---- the same place, with a peer to which something comes

lived_come : (w : World) (old : Lived w) (i : ℕ) (p : Peer) (before : List Act) (e : Event) → Comes w i p before e → (q : Peer) → q.node.me ≡ p.node.me → (xs : List Act) (packets : List Rattle.rapid_model.specs.World.Packet) →
    NodeNow (w.log ++ map (entry p.node) xs) q.node.me q.edges q.node.phase → ((c : Configuration) → member_in p.node ≡ Some c → PastLife (w.log ++ map (entry p.node) xs) p.node.me c) → Bare q.node →
    Lived (record w { peers = Rattle.std.specs.Prelude.slice_set w.peers i q; packets = packets; log = w.log ++ map (entry p.node) xs })
lived_come w old i p _ _ (by_tick _ at) q same xs packets now past bare = lived_next w old i p q at same xs packets now past bare
lived_come w old i p _ _ (by_packet _ x at sent to) q same xs packets now past bare = lived_next w old i p q at same xs packets now past bare
lived_come w old i p _ _ (by_wish _ at) q same xs packets now past bare = lived_next w old i p q at same xs packets now past bare
lived_come w old i _ _ _ (by_probe p c k s ok at ob down) q same xs packets now past bare = lived_next w old i p q at same xs packets now past bare

come_now : (w : World) (old : Lived w) (i : ℕ) (p : Peer) (before : List Act) (e : Event) (j : Joiner) → Comes w i p before e → p.node.phase ≡ Joining j → NodeNow w.log p.node.me p.edges (Joining j)
come_now w old i p _ _ j (by_tick _ at) joining = subst (λ (x : Phase). NodeNow w.log p.node.me p.edges x) joining (old.now i p at)
come_now w old i p _ _ j (by_packet _ x at sent to) joining = subst (λ (x : Phase). NodeNow w.log p.node.me p.edges x) joining (old.now i p at)
come_now w old i p _ _ j (by_wish _ at) joining = subst (λ (x : Phase). NodeNow w.log p.node.me p.edges x) joining (old.now i p at)
come_now w old i _ _ _ j (by_probe p c k s ok at ob down) joining =
    let g : ◌≡◌ {A = Option (Configuration × Process)} None (Some (c, s)) = subst (λ (x : Phase). observed_in (member_config x) p.node.me k ≡ Some (c, s)) joining ob in cc

come_bare : (w : World) (old : Lived w) (i : ℕ) (p : Peer) (before : List Act) (e : Event) → Comes w i p before e → Bare p.node
come_bare w old i p _ _ (by_tick _ at) = old.bare i p at
come_bare w old i p _ _ (by_packet _ x at sent to) = old.bare i p at
come_bare w old i p _ _ (by_wish _ at) = old.bare i p at
come_bare w old i _ _ _ (by_probe p c k s ok at ob down) = old.bare i p at

-- ---- each step

either_same : (b : Bool) (x edges : Monitors) → edges ≡ x → cond b x edges ≡ x
either_same true x edges e = refl
either_same false x edges e = e

-- a joiner that is let in installs
lets_in : (p : Peer) (c : Configuration) → p.node.installed ≡ [] → edges_after p (seed_node c p.node.me) ≡ windows_in (Some c) p.node.me
unfolding fresh_member
lets_in p c none = ap (λ xs. cond (nat_lt (length xs) 1) (windows_in (Some c) p.node.me) p.edges) none

joiner_now : (log : List Entry) (p : Peer) (e : Event) (o : Outcome) → ((c : Configuration) → acts_at log p.node.me c ≡ []) → p.edges ≡ windows_in None p.node.me → p.node.installed ≡ [] → JoinerSteps p.node e o →
    NodeNow log o.node.me (edges_after p o.node) o.node.phase × (o.node.me ≡ p.node.me) × Bare o.node
joiner_now log p _ _ none empty bare (joins_still e j es) = ((none, either_same (has_installed p.node (record p.node { phase = Joining j })) (windows_in None p.node.me) p.edges empty), refl, λ i same. bare)
joiner_now log p _ _ none empty bare (joins from c member) =
    (subst (λ x. NodeNow log p.node.me x (Member (fresh_member c p.node.me))) (sym (lets_in p c bare)) (enters_fresh log c p.node.me member (none c) (λ d above. none d)), refl, λ j same. cc)

pub apply_height : (c : Configuration) (v : Cut) → (apply c v).height ≡ c.height + 1
unfolding apply
apply_height c v = refl

stepped_now : (log : List Entry) (p : Peer) (before : List Act) (s : MemberState) (xs : List Act) (m : Node) → p.node.phase ≡ Member s → Met log p before s →
    ((k : ℕ) → edge_on p.edges k ≡ edge_after fresh_edge (results_in k (acts_at log p.node.me s.config ++ xs))) →
    Stepped s.config (acts_at log p.node.me s.config) p.node xs m →
    NodeNow (log ++ map (entry p.node) xs) m.me (edges_after p m) m.phase × (m.me ≡ p.node.me) × ((c : Configuration) → member_in p.node ≡ Some c → PastLife (log ++ map (entry p.node) xs) p.node.me c) × Bare m
unfolding fresh_member apply
stepped_now log p before s xs _ member met windows (goes_on heard t life sync) = (
  subst (λ x. NodeNow (log ++ map (entry p.node) xs) p.node.me x (Member t)) (sym (ap (λ b. cond b (windows_in (Some t.config) p.node.me) p.edges) (not_below (length p.node.installed))))
      (goes_now log p.node s t xs p.edges heard member life sync met.fresh windows met.sees),
  refl,
  past_now log p.node s t None xs heard member life,
  λ j same. cc,
)
stepped_now log p before s xs _ member met windows (installs heard t v life full) = (
  subst (λ x. NodeNow (log ++ map (entry p.node) xs) p.node.me x (phase_in (apply s.config v) p.node.me)) (sym (ap (λ b. cond b (windows_in (member_config (phase_in (apply s.config v) p.node.me)) p.node.me) p.edges) (below_next (length p.node.installed) _ (length-push p.node.installed _))))
      (by (is_member (apply s.config v) p.node.me) refl),
  refl,
  past_now log p.node s t (Some v) xs heard member life,
  λ j same. absurd (never (is_member (apply s.config v) p.node.me) j same),
)
  where
    higher : (apply s.config v).height ≡ s.config.height + 1
    higher = apply_height s.config v

    none_above : (d : Configuration) → s.config.height < d.height → acts_at (log ++ map (entry p.node) xs) p.node.me d ≡ []
    none_above d up =
        acts_elsewhere log p.node.me d p.node xs (elsewhere p.node.me d p.node (λ _ h. let same : s.config ≡ d = same_Some _ _ (sym (ap member_config member) ∙ h) in let x : d.height < d.height = subst (λ (y : Configuration). y.height < d.height) same up in omega arith))
        ∙ met.fresh d up

    never : (b : Bool) (j : Joiner) → cond b (Member (fresh_member (apply s.config v) p.node.me)) (Removed (apply s.config v)) ≡ Joining j → ⊥
    never true j e = cc
    never false j e = cc

    by : (b : Bool) → is_member (apply s.config v) p.node.me ≡ b →
        NodeNow (log ++ map (entry p.node) xs) p.node.me (windows_in (member_config (cond b (Member (fresh_member (apply s.config v) p.node.me)) (Removed (apply s.config v)))) p.node.me) (cond b (Member (fresh_member (apply s.config v) p.node.me)) (Removed (apply s.config v)))
    by true e = enters_fresh (log ++ map (entry p.node) xs) (apply s.config v) p.node.me e (none_above (apply s.config v) (let h = higher in omega arith)) (λ d up. none_above d (let h = higher in omega arith))
    by false e = tt

module _ (w : World) (old : Lived w) where
  moved_lived : (i : ℕ) (p : Peer) (before : List Act) (e : Event) (o : Outcome) → Comes w i p before e → node_step p.node e ≡ Some o → Lived (moved w i p before o)
  moved_lived i p before e o comes h = by p.node.phase refl
    where
      out : (ph : Phase) → IsOut ph → p.node.phase ≡ ph → member_config ph ≡ None → NodeNow (w.log ++ map (entry p.node) (acts_of before p.node o)) o.node.me (edges_after p o.node) ph → ((j : Joiner) → ph ≡ Joining j → ⊥) → Lived (moved w i p before o)
      out ph is_out at none now never =
          let xs = acts_of before p.node o in
          let is : o.node ≡ p.node = stays_out_of p.node ph e o is_out at h in
          lived_come w old i p before e comes (record p { node = o.node; edges = edges_after p o.node }) (ap (λ (n : Node). n.me) is) xs _
          (subst (λ (x : Phase). NodeNow (w.log ++ map (entry p.node) xs) o.node.me (edges_after p o.node) x) (sym (ap (λ (n : Node). n.phase) is ∙ at)) now) (no_past _ p.node (ap member_config at ∙ none)) (subst Bare (sym is) (λ j same. absurd (never j (sym at ∙ same))))

      by : (ph : Phase) → p.node.phase ≡ ph → Lived (moved w i p before o)
      by (Joining j) at =
          let xs = acts_of before p.node o in
          let then_now = come_now w old i p before e j comes at in
          let r = joiner_now (w.log ++ map (entry p.node) xs) p e o (λ c. nothing_there w.log p.node xs (ap member_config at) c ∙ then_now.0 c) then_now.1 (come_bare w old i p before e comes j at) (joiner_steps p.node j at e o h) in
          lived_come w old i p before e comes (record p { node = o.node; edges = edges_after p o.node }) r.1 xs _ r.0 (no_past _ p.node (ap member_config at)) r.2
      by (Member s) at =
          let xs = acts_of before p.node o in
          let met = meets w old i p before e s comes at in
          let windows : (k : ℕ) → edge_on p.edges k ≡ edge_after fresh_edge (results_in k (acts_at w.log p.node.me s.config ++ xs)) = λ k. met.windows k
          ∙ ap (edge_after fresh_edge) (filter_map-append (result_on k) (acts_at w.log p.node.me s.config) before ∙ ap (λ l. results_in k (acts_at w.log p.node.me s.config) ++ l) (sym (results_acts k before p.node o)) ∙ sym (filter_map-append (result_on k) (acts_at w.log p.node.me s.config) xs)) in
          let r = stepped_now w.log p before s xs o.node at met windows (comes_steps w old i p before e s o comes at h) in
          lived_come w old i p before e comes (record p { node = o.node; edges = edges_after p o.node }) r.1 xs _ r.0 r.2 r.3
      by (Removed c) at = out (Removed c) tt at refl tt (λ j same. cc)
      by (Halted c) at = out (Halted c) tt at refl tt (λ j same. cc)

  halted_lived : (i : ℕ) (p : Peer) (before : List Act) (e : Event) → Comes w i p before e → Lived (halted w i p before)
  halted_lived i p before e comes = lived_come w old i p before e comes (record p { node = halt p.node }) refl (before ++ HasHalted ∷ []) w.packets tt (by p.node.phase refl) (λ j same. cc)
    where
      by : (ph : Phase) → p.node.phase ≡ ph → (c : Configuration) → member_in p.node ≡ Some c → PastLife (w.log ++ map (entry p.node) (before ++ HasHalted ∷ [])) p.node.me c
      by (Member s) at = let l = halts_life w old i p before e s comes at in past_now w.log p.node s l.1 None (before ++ HasHalted ∷ []) l.0 at l.2
      by ph at = no_past _ p.node (ap member_config at)

  noted_lived : (i : ℕ) (p : Peer) (c : Configuration) (k : ℕ) (z : Process) (ok : Bool) → StandsAt w i p → observed p k ≡ Some (c, z) → Lived (noted w i p k ok (probed (edge_on p.edges k) ok))
  noted_lived i p c k z ok at ob = by p.node.phase refl
    where
      by : (ph : Phase) → p.node.phase ≡ ph → Lived (noted w i p k ok (probed (edge_on p.edges k) ok))
      by (Member s) is =
          let m = now_member w old i p s at is in
          let there = m.sees k (c, z) (subst (λ (x : Phase). observed_in (member_config x) p.node.me k ≡ Some (c, z)) is ob) in
          let q : Peer = with_edge p k (probed (edge_on p.edges k) ok) in
          let xs : List Act = Probed k ok ∷ [] in
          let life = does (acts_at w.log p.node.me s.config) m.heard s (Some (Probed k ok)) None s None m.life (marks (Probed k ok) tt) in
          let sync : m.heard ≡ taken_in p.node.me (acts_at w.log p.node.me s.config ++ xs) = m.sync ∙ sym (append-nil _) ∙ sym (filter_map-append (Rattle.rapid_model.specs.History.taken_by p.node.me) (acts_at w.log p.node.me s.config) xs) in
          lived_next w old i p q at refl xs w.packets
          (subst (λ (x : Phase). NodeNow (w.log ++ map (entry p.node) xs) p.node.me q.edges x) (sym is)
          (goes_now w.log p.node s s xs q.edges m.heard is life sync m.fresh (λ j. window_after p.edges (acts_at w.log p.node.me s.config) k j ok there.0 there.1 m.windows)
          (sees_next s.config p.node.me p.edges k there.0 (probed (edge_on p.edges k) ok) there.1 m.sees)))
          (past_now w.log p.node s s None xs m.heard is life) (old.bare i p at)
      by ph is = let g : ◌≡◌ {A = Option (Configuration × Process)} None (Some (c, z)) = subst (λ (x : Phase). observed_in (member_config x) p.node.me k ≡ Some (c, z)) is ob in cc

  crashed_lived : (i : ℕ) (p : Peer) → StandsAt w i p → Lived (crashed w i p)
  crashed_lived i p at = by p.node.phase refl
    where
      by : (ph : Phase) → p.node.phase ≡ ph → Lived (crashed w i p)
      by (Member s) is =
          let m = now_member w old i p s at is in
          let xs : List Act = Crashed ∷ [] in
          let life = does (acts_at w.log p.node.me s.config) m.heard s (Some Crashed) None s None m.life (marks Crashed tt) in
          let sync : m.heard ≡ taken_in p.node.me (acts_at w.log p.node.me s.config ++ xs) = m.sync ∙ sym (append-nil _) ∙ sym (filter_map-append (Rattle.rapid_model.specs.History.taken_by p.node.me) (acts_at w.log p.node.me s.config) xs) in
          lived_next w old i p (record p { crashed = true }) at refl xs w.packets
          (subst (λ (x : Phase). NodeNow (w.log ++ map (entry p.node) xs) p.node.me p.edges x) (sym is)
          (goes_now w.log p.node s s xs p.edges m.heard is life sync m.fresh (λ j. m.windows j ∙ ap (edge_after fresh_edge) (sym (no_results j (acts_at w.log p.node.me s.config) Crashed refl))) m.sees))
          (past_now w.log p.node s s None xs m.heard is life) (old.bare i p at)
      by ph is =
          lived_next w old i p (record p { crashed = true }) at refl (Crashed ∷ []) w.packets
          (now_same w.log (w.log ++ map (entry p.node) (Crashed ∷ [])) p.node.me p.edges p.node.phase (nothing_there w.log p.node (Crashed ∷ []) (ap member_config is)) (old.now i p at)) (no_past _ p.node (ap member_config is)) (old.bare i p at)

  -- ---- a process starts

  unused : (p : Process) (seed : List ℕ) → refusal w (Start p seed) ≡ None → list_any (has_identifier (identifier p)) w.peers ≡ false
  unused p seed r =
      cond_both (list_any (has_identifier (identifier p)) w.peers) _ _ (λ o. o ≡ None → list_any (has_identifier (identifier p)) w.peers ≡ false) (λ e g. cc) (λ e g. e) r

  none_has : {A : Type 0} (f : A → Bool) (xs : List A) (i : ℕ) (x : A) → list_any f xs ≡ false → slice_get xs i ≡ Some x → f x ≡ false
  none_has f [] i x e h = cc
  none_has f (y ∷ ys) zero x e h = sym (ap (λ z. f z) (same_Some _ _ h)) ∙ (or_parts (f y) (list_any f ys) e).0
  none_has f (y ∷ ys) (suc i) x e h = none_has f ys i x (or_parts (f y) (list_any f ys) e).1 h

  module _ (p : Process) (seed : List ℕ) (r : refusal w (Start p seed) ≡ None) where
    pub not_theirs : (i : ℕ) (q : Peer) → StandsAt w i q → identifier p ≡ identifier q.node.me → ⊥
    not_theirs i q at e =
        let f = none_has (has_identifier (identifier p)) w.peers i q (unused p seed r) at in
        let t = (same_bytes_decides (identifier p) (identifier q.node.me)).1 e in
        let wrong : true ≡ false = sym t ∙ f in cc

    no_entries : (log : List Entry) → ((e : Entry) → In log e → e.who ≡ p → ⊥) → (c : Configuration) → acts_at log p c ≡ []
    no_entries [] f c = refl
    no_entries (e ∷ log) f c =
        ap (λ b. map (λ (x : Entry). x.act) (cond b (e ∷ Rattle.std.proofs.Common.filter (is_act_in p c) log) (Rattle.std.proofs.Common.filter (is_act_in p c) log)))
        (false_from_ne_true _ (λ is. f e (inl refl) (sym ((same_bytes_decides p e.who).0 (and_parts _ _ is).0)))) ∙ no_entries log (λ x h. f x (inr h)) c

    started_lived : Lived (started w p seed)
    started_lived =
        record {
          names = λ i j a b ha hb e. elim (get_push w.peers i _ a ha) [
            | inl x ↦ elim (get_push w.peers j _ b hb) [
              | inl y ↦ old.names i j a b x y e
              | inr y ↦ absurd (not_theirs i a x (sym (ap (λ (z : Peer). identifier z.node.me) y.1) ∙ sym e))
            ]
            | inr x ↦ elim (get_push w.peers j _ b hb) [
              | inl y ↦ absurd (not_theirs j b y (sym (ap (λ (z : Peer). identifier z.node.me) x.1) ∙ e))
              | inr y ↦ x.0 ∙ sym y.0
            ]
          ];
          known = λ e h. let k = old.known e h in (k.0, k.1, push_get w.peers k.0 _ k.1 k.2, k.3);
          now = λ i a ha. elim (get_push w.peers i _ a ha) [
            | inl x ↦ old.now i a x
            | inr x ↦ subst (λ (z : Peer). NodeNow w.log z.node.me z.edges z.node.phase) (sym x.1)
                (no_entries w.log (λ e h same. let k = old.known e h in not_theirs k.0 k.1 k.2 (ap identifier (sym (k.3 ∙ same)))), refl)
          ];
          past = old.past;
          bare = λ i a ha. elim (get_push w.peers i _ a ha) [
            | inl x ↦ old.bare i a x
            | inr x ↦ subst (λ (z : Peer). Bare z.node) (sym x.1) (λ j same. refl)
          ];
        }

pub lived_kept : (w v : World) → Steps w v → Lived w → Lived v
lived_kept w _ stays old = old
lived_kept w _ (starts p seed r) old = started_lived w old p seed r
lived_kept w _ (notes i p c k s ok at ob) old = noted_lived w old i p c k s ok at ob
lived_kept w _ (stops i p before e c r) old = halted_lived w old i p before e c
lived_kept w _ (moves i p before e o c r h) old = moved_lived w old i p before e o c h
lived_kept w _ (ends i p at) old = crashed_lived w old i p at

-- ---- the opening

pub get_map : {A B : Type 0} (f : A → B) (xs : List A) (i : ℕ) (y : B) → slice_get (map f xs) i ≡ Some y → (x : A) × (slice_get xs i ≡ Some x) × (y ≡ f x)
get_map f [] i y h = cc
get_map f (x ∷ xs) zero y h = (x, refl, sym (same_Some _ _ h))
get_map f (x ∷ xs) (suc i) y h = get_map f xs i y h

pub apart_names : (ms : List Process) (i j : ℕ) (a b : Process) → identifiers_ascend ms ≡ true → slice_get ms i ≡ Some a → slice_get ms j ≡ Some b → identifier a ≡ identifier b → i ≡ j
apart_names [] i j a b asc ha hb e = cc
apart_names (m ∷ ms) zero zero a b asc ha hb e = refl
apart_names (m ∷ ms) zero (suc j) a b asc ha hb e = absurd (not_below_itself (identifier m) (identifier b) (ap identifier (same_Some _ _ ha) ∙ e) (all_at (λ q. is_lt (bytes_cmp (identifier m) (identifier q))) ms j b (and_parts _ _ asc).0 hb))
apart_names (m ∷ ms) (suc i) zero a b asc ha hb e = absurd (not_below_itself (identifier m) (identifier a) (ap identifier (same_Some _ _ hb) ∙ sym e) (all_at (λ q. is_lt (bytes_cmp (identifier m) (identifier q))) ms i a (and_parts _ _ asc).0 ha))
apart_names (m ∷ ms) (suc i) (suc j) a b asc ha hb e = ap suc (apart_names ms i j a b (and_parts _ _ asc).1 ha hb e)

is_member_at : (ms : List Process) (i : ℕ) (a : Process) → slice_get ms i ≡ Some a → is_in ms a ≡ true
is_member_at [] i a h = cc
is_member_at (m ∷ ms) zero a h = ap (λ b. b || list_any (same_bytes a) ms) ((same_bytes_decides a m).1 (sym (same_Some _ _ h)))
is_member_at (m ∷ ms) (suc i) a h = or_right (same_bytes a m) _ (is_member_at ms i a h)

opening_acts : (c : Configuration) (ms : List Process) (me : Process) (d : Configuration) → acts_at (map (λ p. record { who = p; at = None; act = Installed c }) ms) me d ≡ []
opening_acts c [] me d = refl
opening_acts c (m ∷ ms) me d = rw and-false (opening_acts c ms me d)

opening_known : (c : Configuration) (ms : List Process) (e : Entry) → In (map (λ p. record { who = p; at = None; act = Installed c }) ms) e →
    (i : ℕ) × (p : Peer) × (slice_get (map (λ q. added (seed_node c q)) ms) i ≡ Some p) × (p.node.me ≡ e.who)
opening_known c [] e h = absurd h
opening_known c (m ∷ ms) e (inl same) = (0, added (seed_node c m), refl, ap (λ (x : Entry). x.who) same)
opening_known c (m ∷ ms) e (inr later) = let r = opening_known c ms e later in (suc r.0, r.1, r.2, r.3)

pub lived_founded : (c : Configuration) → AreMembers c.members → Lived (founded c)
unfolding fresh_member
lived_founded c are =
    record {
      names = λ i j p q hp hq e. let x = get_map (λ z. added (seed_node c z)) c.members i p hp in let y = get_map (λ z. added (seed_node c z)) c.members j q hq in
          apart_names c.members i j x.0 y.0 are.identifiers x.1 y.1 (sym (ap (λ (z : Peer). identifier z.node.me) x.2) ∙ e ∙ ap (λ (z : Peer). identifier z.node.me) y.2);
      known = opening_known c c.members;
      now = λ i p hp. let x = get_map (λ z. added (seed_node c z)) c.members i p hp in
          subst (λ (z : Peer). NodeNow (founded c).log z.node.me z.edges z.node.phase) (sym x.2)
          (enters_fresh (founded c).log c x.0 (is_member_at c.members i x.0 x.1) (opening_acts c c.members x.0 c) (λ d up. opening_acts c c.members x.0 d));
      past = λ me d. was_not (opening_acts c c.members me d);
      bare = λ i p hp. let x = get_map (λ z. added (seed_node c z)) c.members i p hp in subst (λ (z : Peer). Bare z.node) (sym x.2) (λ j same. cc);
    }

pub lived_run : (c : Configuration) (es : List MarkedEvent) → AreMembers c.members → Lived (run es (founded c))
lived_run c es are = run_keeps Lived lived_kept es (founded c) (lived_founded c are)
