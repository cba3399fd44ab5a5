-- Each node lists the stamps of what it installed, in order.
use Rattle.std.proofs.Common.{◌≡◌, inl, inr, Bool, true, false, cond, List, [], ◌∷◌, ◌++◌, refl, sym, ap, subst, Option, Some, None, length, ◌+◌, ℕ, ◌∙◌, zero, suc, map, ◌≢◌, append-nil}
use Rattle.rapid_safety.proofs.Basics.{slice_get, slice_set, nat_lt, filter_map, list_any, cons_option, filter_map-append, map-append, cond_both, false_from_ne_true, or_parts, In, in_left, in_right, same_bytes_decides}
use Rattle.rapid_safety.proofs.Values.{Process, identifier, same_bytes, is_in, Cut, Configuration, is_member, AreMembers, Stamp, stamp, apply, Message, Confirm}
use Rattle.rapid_safety.proofs.Parts.{Joiner}
use Rattle.rapid_safety.proofs.Working.{Node, Phase, Joining, Member, Removed, Halted, MemberState, Outcome, Event, member_in, member_config, has_installed, configuration_of, seed_node, fresh_member, joiner_node, halt, Effect}
use Rattle.rapid_safety.proofs.Worlds.{World, Act, Installed, Peer, Did, Entry, Packet, Probed, HasHalted, Crashed, install_acts, acts_of, added, entry, moved, founded, installed_of, installed_by}
use Rattle.rapid_model.specs.PublishedList.{HeightsRise}
use Rattle.rapid_safety.proofs.Atoms.{message, Lives, lives_config}
use Rattle.rapid_safety.proofs.NodeWorks.{not_below, Stepped, goes_on, installs, next_node, install_act}
use Rattle.rapid_safety.proofs.Histories.{acts_at, Bare, Lived, comes_steps, get_set, get_push}
use Rattle.rapid_safety.proofs.Lived.{JoinerSteps, joins_still, joins, joiner_steps, stays_out_of, apply_height, get_map, not_theirs}
use Rattle.rapid_safety.proofs.News.{SaidIn, PacketsSaid, Moves, came_said, come_stands, log_new, new_at}
use Rattle.rapid_safety.proofs.Steps.{StandsAt, Comes, by_tick, by_packet, by_probe, by_wish, Steps, stays, starts, notes, stops, moves, ends, log_grows}
use Rattle.rapid_safety.proofs.Members.{of_map, Distinct, not_in, founders_differ}
use Rattle.std.proofs.lemmas.Option.{same_Some}

-- the acts of the node in a configuration after the step, if it is a member there
abbrev pub acts_then : (w v : World) → Moves w v → Configuration → List Act
acts_then w v m c = acts_at w.log m.peer.node.me c ++ acts_of m.before m.peer.node m.outcome

-- what the step makes of the node
pub data MoveKind (w v : World) (m : Moves w v) : Node → Type 0 where
  member_goes_on : (s t : MemberState) → m.peer.node.phase ≡ Member s → t.config ≡ s.config →
      MoveKind w v m (record { me = m.peer.node.me; phase = Member t; installed = m.peer.node.installed; decisions = m.peer.node.decisions })
  member_installs : (s : MemberState) (heard : List Message) (t : MemberState) (u : Cut) → m.peer.node.phase ≡ Member s →
      Lives s.config m.peer.node.me (acts_then w v m s.config) heard t (Some u) → MoveKind w v m (next_node m.peer.node s.config u)
  joiner_goes_on : (j k : Joiner) → m.peer.node.phase ≡ Joining j → MoveKind w v m (record m.peer.node { phase = Joining k })
  joiner_enters : (j : Joiner) (from : Process) (c : Configuration) → m.peer.node.phase ≡ Joining j → SaidIn w.log from (Confirm c) → is_member c m.peer.node.me ≡ true →
      MoveKind w v m (seed_node c m.peer.node.me)
  stays_out : member_in m.peer.node ≡ None → MoveKind w v m m.peer.node

module _ (w v : World) (m : Moves w v) (lived : Lived w) (said : PacketsSaid w) where
  of_member : (s : MemberState) (n : Node) → m.peer.node.phase ≡ Member s → Stepped s.config (acts_at w.log m.peer.node.me s.config) m.peer.node (acts_of m.before m.peer.node m.outcome) n → MoveKind w v m n
  of_member s _ at (goes_on heard t life sync) = member_goes_on s t at (lives_config s.config m.peer.node.me _ heard t None life)
  of_member s _ at (installs heard t u life full) = member_installs s heard t u at life

  of_joiner : (j : Joiner) (e : Event) (o : Outcome) → m.peer.node.phase ≡ Joining j → m.event ≡ e → JoinerSteps m.peer.node e o → MoveKind w v m o.node
  of_joiner j _ _ at is (joins_still e k es) = joiner_goes_on j k at
  of_joiner j _ _ at is (joins from c member) = joiner_enters j from c at (came_said w m.place m.peer m.before m.event (message from (Confirm c)) m.comes said is) member

  pub kind_of : MoveKind w v m m.outcome.node
  kind_of = by m.peer.node.phase refl
    where
      by : (ph : Phase) → m.peer.node.phase ≡ ph → MoveKind w v m m.outcome.node
      by (Joining j) at = of_joiner j m.event m.outcome at refl (joiner_steps m.peer.node j at m.event m.outcome m.steps)
      by (Member s) at = of_member s m.outcome.node at (comes_steps w lived m.place m.peer m.before m.event s m.outcome m.comes at m.steps)
      by (Removed c) at = subst (MoveKind w v m) (sym (stays_out_of m.peer.node (Removed c) m.event m.outcome tt at m.steps)) (stays_out (ap member_config at))
      by (Halted c) at = subst (MoveKind w v m) (sym (stays_out_of m.peer.node (Halted c) m.event m.outcome tt at m.steps)) (stays_out (ap member_config at))

-- how a step installs a configuration
pub data InstallKind (w v : World) (m : Moves w v) : Configuration → Type 0 where
  by_member : (s : MemberState) (heard : List Message) (t : MemberState) (u : Cut) → m.peer.node.phase ≡ Member s → Lives s.config m.peer.node.me (acts_then w v m s.config) heard t (Some u) → InstallKind w v m (apply s.config u)
  by_joiner : (j : Joiner) (from : Process) (c : Configuration) → m.peer.node.phase ≡ Joining j → SaidIn w.log from (Confirm c) → is_member c m.peer.node.me ≡ true → InstallKind w v m c

some_installed : (w v : World) (m : Moves w v) (b : Bool) (c d : Configuration) → In (cond b (Installed d ∷ []) []) (Installed c) → InstallKind w v m d → InstallKind w v m c
some_installed w v m true c d (inl e) k = let same : d ≡ c = cc in subst (InstallKind w v m) same k
some_installed w v m true c d (inr n) k = absurd n
some_installed w v m false c d h k = absurd h

none_installed : (n m : Node) (o : Option Configuration) (c : Configuration) → has_installed n m ≡ false → In (install_acts n m o) (Installed c) → ⊥
none_installed n m None c e h = h
none_installed n m (Some d) c e h = subst (λ b. In (cond b (Installed d ∷ []) []) (Installed c)) e h

install_kind : (w v : World) (m : Moves w v) (n : Node) → MoveKind w v m n → (c : Configuration) → In (install_acts m.peer.node n (configuration_of n)) (Installed c) → InstallKind w v m c
unfolding fresh_member
install_kind w v m _ (member_goes_on s t at same) c h =
    absurd (none_installed m.peer.node (record { me = m.peer.node.me; phase = Member t; installed = m.peer.node.installed; decisions = m.peer.node.decisions }) (Some t.config) c (not_below (length m.peer.node.installed)) h)
install_kind w v m _ (member_installs s heard t u at life) c h =
    some_installed w v m true c (apply s.config u) (subst (λ l. In l (Installed c)) (install_act m.peer.node s.config u) h) (by_member s heard t u at life)
install_kind w v m _ (joiner_goes_on j k at) c h = absurd h
install_kind w v m _ (joiner_enters j from d at said member) c h = some_installed w v m (has_installed m.peer.node (seed_node d m.peer.node.me)) c d h (by_joiner j from d at said member)
install_kind w v m _ (stays_out none) c h = absurd (none_installed m.peer.node m.peer.node (configuration_of m.peer.node) c (not_below (length m.peer.node.installed)) h)

pub install_kind_of : (w v : World) (m : Moves w v) → Lived w → PacketsSaid w → (c : Configuration) → In (install_acts m.peer.node m.outcome.node (configuration_of m.outcome.node)) (Installed c) → InstallKind w v m c
install_kind_of w v m lived said c h = install_kind w v m m.outcome.node (kind_of w v m lived said) c h

-- ---- what each process installed, by the log

-- what p installed by a log, in order
abbrev pub installs_in : List Entry → Process → List Configuration
installs_in log p = filter_map (installed_by p) log

abbrev pub new_installs : List Act → List Configuration
new_installs xs = filter_map installed_of xs

pub own_installs : (n : Node) (p : Process) → n.me ≡ p → (xs : List Act) → installs_in (map (entry n) xs) p ≡ new_installs xs
own_installs n p is [] = refl
own_installs n p is (a ∷ xs) =
    ap (λ b. cons_option (cond b (installed_of a) None) (installs_in (map (entry n) xs) p)) ((same_bytes_decides p n.me).1 (sym is)) ∙ ap (cons_option (installed_of a)) (own_installs n p is xs)

no_installs : (p : Process) (log : List Entry) → ((e : Entry) → In log e → e.who ≡ p → ⊥) → installs_in log p ≡ []
no_installs p [] h = refl
no_installs p (e ∷ log) h =
    ap (λ b. cons_option (cond b (installed_of e.act) None) (installs_in log p)) (false_from_ne_true _ (λ is. h e (inl refl) (sym ((same_bytes_decides p e.who).0 is)))) ∙ no_installs p log (λ x i. h x (inr i))

others_install : (n : Node) (p : Process) → n.me ≢ p → (xs : List Act) → installs_in (map (entry n) xs) p ≡ []
others_install n p apart xs = no_installs p (map (entry n) xs) (λ e i same. apart (who xs e i ∙ same))
  where
    who : (ys : List Act) (e : Entry) → In (map (entry n) ys) e → n.me ≡ e.who
    who [] e i = absurd i
    who (y ∷ ys) e (inl s) = ap (λ (x : Entry). x.who) s
    who (y ∷ ys) e (inr i) = who ys e i

-- what p installed stands in the log
pub of_installs : (log : List Entry) (p : Process) (c : Configuration) → In (installs_in log p) c → (e : Entry) × In log e × (e.who ≡ p) × (e.act ≡ Installed c)
of_installs [] p c h = absurd h
of_installs (e ∷ log) p c h = by (same_bytes p e.who) refl h (of_installs log p c)
  where
    is_one : (a : Act) (d : Configuration) → installed_of a ≡ Some d → a ≡ Installed d
    is_one (Installed x) d h = ap Installed (same_Some _ _ h)
    is_one a d h = cc

    pick : (o : Option Configuration) → installed_of e.act ≡ o → same_bytes p e.who ≡ true → In (cons_option o (installs_in log p)) c → (In (installs_in log p) c → (x : Entry) × In log x × (x.who ≡ p) × (x.act ≡ Installed c)) →
        (x : Entry) × In (e ∷ log) x × (x.who ≡ p) × (x.act ≡ Installed c)
    pick None is own i f = let r = f i in (r.0, inr r.1, r.2, r.3)
    pick (Some d) is own (inl s) f = (e, inl refl, sym ((same_bytes_decides p e.who).0 own), is_one e.act c (is ∙ ap Some s))
    pick (Some d) is own (inr i) f = let r = f i in (r.0, inr r.1, r.2, r.3)

    by : (b : Bool) → same_bytes p e.who ≡ b → In (cons_option (cond b (installed_of e.act) None) (installs_in log p)) c → (In (installs_in log p) c → (x : Entry) × In log x × (x.who ≡ p) × (x.act ≡ Installed c)) →
        (x : Entry) × In (e ∷ log) x × (x.who ≡ p) × (x.act ≡ Installed c)
    by true own i f = pick (installed_of e.act) refl own i f
    by false own i f = let r = f i in (r.0, inr r.1, r.2, r.3)

-- ---- the acts of a step

come_none : (w : World) (i : ℕ) (p : Peer) (before : List Act) (e : Event) → Comes w i p before e → new_installs before ≡ []
come_none w i p _ _ (by_tick _ at) = refl
come_none w i p _ _ (by_packet _ x at sent to) = refl
come_none w i p _ _ (by_wish _ at) = refl
come_none w i _ _ _ (by_probe p c k s ok at ob down) = refl

done_none : (es : List Effect) → new_installs (map Did es) ≡ []
done_none [] = refl
done_none (x ∷ es) = done_none es

pub step_installs : (w : World) (i : ℕ) (p : Peer) (before : List Act) (e : Event) (o : Outcome) → Comes w i p before e → new_installs (acts_of before p.node o) ≡ new_installs (install_acts p.node o.node (configuration_of o.node))
step_installs w i p before e o c =
    filter_map-append installed_of (before ++ map Did o.effects) last
    ∙ ap (λ l. l ++ new_installs last) (filter_map-append installed_of before (map Did o.effects) ∙ ap (λ l. l ++ new_installs (map Did o.effects)) (come_none w i p before e c) ∙ done_none o.effects)
  where
    last : List Act
    last = install_acts p.node o.node (configuration_of o.node)

pub joins_here : (n : Node) (c : Configuration) → n.installed ≡ [] → install_acts n (seed_node c n.me) (configuration_of (seed_node c n.me)) ≡ Installed c ∷ []
unfolding fresh_member
joins_here n c none = ap (λ (xs : List Rattle.rapid_model.specs.Configuration.Stamp). cond (nat_lt (length xs) 1) (Installed c ∷ []) []) none

none_new : (n m : Node) → m.installed ≡ n.installed → new_installs (install_acts n m (configuration_of m)) ≡ []
none_new n m e = by (configuration_of m)
  where
    by : (o : Option Configuration) → new_installs (install_acts n m o) ≡ []
    by None = refl
    by (Some c) = ap (λ b. new_installs (cond b (Installed c ∷ []) [])) (ap (λ (xs : List Stamp). nat_lt (length n.installed) (length xs)) e ∙ not_below (length n.installed))

-- what its node installs in a step
abbrev pub gains : (w v : World) (m : Moves w v) (n : Node) → MoveKind w v m n → List Configuration
gains w v m _ (member_goes_on s t at same) = []
gains w v m _ (member_installs s heard t u at life) = apply s.config u ∷ []
gains w v m _ (joiner_goes_on j k at) = []
gains w v m _ (joiner_enters j from c at said member) = c ∷ []
gains w v m _ (stays_out none) = []

gains_are : (w v : World) (m : Moves w v) (n : Node) (k : MoveKind w v m n) → Bare m.peer.node → new_installs (install_acts m.peer.node n (configuration_of n)) ≡ gains w v m n k
unfolding fresh_member
gains_are w v m _ (member_goes_on s t at same) bare = none_new m.peer.node (record { me = m.peer.node.me; phase = Member t; installed = m.peer.node.installed; decisions = m.peer.node.decisions }) refl
gains_are w v m _ (member_installs s heard t u at life) bare = ap new_installs (install_act m.peer.node s.config u)
gains_are w v m _ (joiner_goes_on j k at) bare = refl
gains_are w v m _ (joiner_enters j from c at said member) bare = ap new_installs (joins_here m.peer.node c (bare j at))
gains_are w v m _ (stays_out none) bare = none_new m.peer.node m.peer.node refl

kind_me : (w v : World) (m : Moves w v) (n : Node) → MoveKind w v m n → n.me ≡ m.peer.node.me
kind_me w v m _ (stays_out none) = refl
kind_me w v m _ k = refl

-- each founder installed the founding configuration
abbrev opening : Configuration → List Process → List Entry
opening c ms = map (λ q. record { who = q; at = None; act = Installed c }) ms

not_opened : (c : Configuration) (ms : List Process) (p : Process) → is_in ms p ≡ false → installs_in (opening c ms) p ≡ []
not_opened c [] p h = refl
not_opened c (m ∷ ms) p h =
    let r = or_parts (same_bytes p m) (list_any (same_bytes p) ms) h in
    ap (λ b. cons_option (cond b (Some c) None) (installs_in (opening c ms) p)) r.0 ∙ not_opened c ms p r.1

opened_once : (c : Configuration) (ms : List Process) (p : Process) → Distinct ms → In ms p → installs_in (opening c ms) p ≡ c ∷ []
opened_once c [] p d i = absurd i
opened_once c (m ∷ ms) p d (inl e) =
    ap (λ b. cons_option (cond b (Some c) None) (installs_in (opening c ms) p)) ((same_bytes_decides p m).1 (sym e)) ∙ ap (λ l. c ∷ l) (not_opened c ms p (subst (λ x. is_in ms x ≡ false) e d.0))
opened_once c (m ∷ ms) p d (inr i) =
    ap (λ b. cons_option (cond b (Some c) None) (installs_in (opening c ms) p)) (false_from_ne_true _ (λ is. not_in ms m d.0 (subst (In ms) ((same_bytes_decides p m).0 is) i))) ∙ opened_once c ms p d.1 i

pub get_in : {A : Type 0} (xs : List A) (i : ℕ) (x : A) → slice_get xs i ≡ Some x → In xs x
get_in [] i x h = cc
get_in (y ∷ ys) zero x h = inl (cc)
get_in (y ∷ ys) (suc i) x h = inr (get_in ys i x h)

-- ---- what holds of each node and of what it installed, in every run

-- the world after a step at a place
abbrev after_at : World → ℕ → Peer → Node → List Act → List Packet → World
after_at w i q n xs packets = record w { peers = slice_set w.peers i q; packets = packets; log = w.log ++ map (entry n) xs }

module _ (Q : World → Node → List Configuration → Type 0) where
  abbrev pub OfNodes : World → Type 0
  OfNodes w = (i : ℕ) (p : Peer) → StandsAt w i p → Q w p.node (installs_in w.log p.node.me)

  pub record KeptBy (w v : World) : Type 0 where
    pub lasts : (n : Node) (xs : List Configuration) → Q w n xs → Q v n xs
    pub halts : (n : Node) (xs : List Configuration) → Q w n xs → Q v (halt n) xs
    pub starts : (me : Process) (seed : List ℕ) → Q v (joiner_node me seed) []
    pub moves : (m : Moves w v) (n : Node) (k : MoveKind w v m n) (xs : List Configuration) → Q w m.peer.node xs → Q v n (xs ++ gains w v m n k)

  -- a step at a place
  at_place : (w : World) (lived : Lived w) (i : ℕ) (p q : Peer) → StandsAt w i p → (n : Node) → n.me ≡ p.node.me → q.node.me ≡ n.me → (xs : List Act) (packets : List Packet) →
      KeptBy w (after_at w i q n xs packets) → Q (after_at w i q n xs packets) q.node (installs_in w.log n.me ++ new_installs xs) → OfNodes w → OfNodes (after_at w i q n xs packets)
  at_place w lived i p q at n was me xs packets kept now old j a h =
      elim (get_set w.peers i j q a h) [
        | inl r ↦ subst (λ (z : Peer). Q (after_at w i q n xs packets) z.node (installs_in (w.log ++ map (entry n) xs) z.node.me)) (sym r.1) (subst (Q (after_at w i q n xs packets) q.node) (sym mine) now)
        | inr r ↦ subst (Q (after_at w i q n xs packets) a.node) (sym (other r.0 r.1)) (kept.lasts a.node _ (old j a r.1))
      ]
    where
      mine : installs_in (w.log ++ map (entry n) xs) q.node.me ≡ installs_in w.log n.me ++ new_installs xs
      mine = ap (installs_in (w.log ++ map (entry n) xs)) me ∙ filter_map-append (installed_by n.me) w.log (map (entry n) xs) ∙ ap (λ l. installs_in w.log n.me ++ l) (own_installs n n.me refl xs)

      other : j ≢ i → StandsAt w j a → installs_in (w.log ++ map (entry n) xs) a.node.me ≡ installs_in w.log a.node.me
      other far there =
          filter_map-append (installed_by a.node.me) w.log (map (entry n) xs)
          ∙ ap (λ l. installs_in w.log a.node.me ++ l) (others_install n a.node.me (λ e. far (lived.names j i a p there at (ap identifier (sym e ∙ was)))) xs) ∙ append-nil (installs_in w.log a.node.me)

  pub of_nodes_kept : (w v : World) → Steps w v → Lived w → PacketsSaid w → KeptBy w v → OfNodes w → OfNodes v
  of_nodes_kept w _ stays lived said kept old = λ i p at. kept.lasts p.node _ (old i p at)
  of_nodes_kept w v (starts p seed r) lived said kept old = λ i a at. elim (get_push w.peers i _ a at) [
    | inl x ↦ kept.lasts a.node _ (old i a x)
    | inr x ↦ subst (λ (z : Peer). Q v z.node (installs_in w.log z.node.me)) (sym x.1)
        (subst (Q v (joiner_node p seed)) (sym (no_installs p w.log (λ e j same. let q = lived.known e j in not_theirs w lived p seed r q.0 q.1 q.2 (ap identifier (sym (q.3 ∙ same)))))) (kept.starts p seed))
  ]
  of_nodes_kept w v (notes i p c j s ok at ob) lived said kept old = at_place w lived i p _ at p.node refl refl (Probed j ok ∷ []) w.packets kept (subst (Q v p.node) (sym (append-nil _)) (kept.lasts p.node _ (old i p at))) old
  of_nodes_kept w v (stops i p before e c r) lived said kept old =
      let q = come_stands w i p before e c in
      let none : new_installs (before ++ HasHalted ∷ []) ≡ [] = filter_map-append installed_of before (HasHalted ∷ []) ∙ append-nil (new_installs before) ∙ come_none w i p before e c in
      at_place w lived i q.0 _ q.1 p.node (ap (λ (n : Node). n.me) (sym q.2)) refl (before ++ HasHalted ∷ []) w.packets kept
      (subst (Q v (halt p.node)) (sym (ap (λ l. installs_in w.log p.node.me ++ l) none ∙ append-nil _)) (kept.halts p.node _ (subst (λ (n : Node). Q w n (installs_in w.log n.me)) q.2 (old i q.0 q.1)))) old
  of_nodes_kept w v (moves i p before e o c r st) lived said kept old =
      let q = come_stands w i p before e c in
      let m : Moves w v = record { place = i; peer = p; before = before; event = e; outcome = o; comes = c; runs = r; steps = st; is = refl } in
      let k = kind_of w v m lived said in
      let new : new_installs (acts_of before p.node o) ≡ gains w v m o.node k = step_installs w i p before e o c ∙ gains_are w v m o.node k (subst Bare q.2 (lived.bare i q.0 q.1)) in
      at_place w lived i q.0 _ q.1 p.node (ap (λ (n : Node). n.me) (sym q.2)) (kind_me w v m o.node k) (acts_of before p.node o) (moved w i p before o).packets kept
      (subst (λ l. Q v o.node (installs_in w.log p.node.me ++ l)) (sym new) (kept.moves m o.node k _ (subst (λ (n : Node). Q w n (installs_in w.log n.me)) q.2 (old i q.0 q.1)))) old
  of_nodes_kept w v (ends i p at) lived said kept old = at_place w lived i p _ at p.node refl refl (Crashed ∷ []) w.packets kept (subst (Q v p.node) (sym (append-nil _)) (kept.lasts p.node _ (old i p at))) old

  pub of_nodes_founded : (c : Configuration) → AreMembers c.members → ((me : Process) → Q (founded c) (seed_node c me) (c ∷ [])) → OfNodes (founded c)
  of_nodes_founded c are each i p at =
      let x = get_map (λ z. added (seed_node c z)) c.members i p at in
      subst (λ (z : Peer). Q (founded c) z.node (installs_in (founded c).log z.node.me)) (sym x.2)
      (subst (Q (founded c) (seed_node c x.0)) (sym (opened_once c c.members x.0 (founders_differ c.members are.identifiers) (get_in c.members i x.0 x.1))) (each x.0))

-- ---- each node lists the stamps of what it installed, whose heights rise by one; a member installed its configuration
-- last

rise_push : (bs : List Stamp) (s t : Stamp) → t.height ≡ s.height + 1 → HeightsRise (bs ++ s ∷ []) → HeightsRise ((bs ++ s ∷ []) ++ t ∷ [])
rise_push [] s t e h = (e, tt)
rise_push (b ∷ []) s t e h = (h.0, (e, tt))
rise_push (b ∷ d ∷ bs) s t e h = (h.0, rise_push (d ∷ bs) s t e h.1)

abbrev pub EndsIn : List Configuration → Phase → Type 0
EndsIn xs (Joining j) = xs ≡ []
EndsIn xs (Member s) = (ys : List Configuration) × (xs ≡ ys ++ s.config ∷ [])
EndsIn xs ph = Unit {0}

pub record IsShown (n : Node) (xs : List Configuration) : Type 0 where
  pub stamps : n.installed ≡ map stamp xs
  pub rises : HeightsRise n.installed
  pub ends : EndsIn xs n.phase

abbrev pub Shown : World → Type 0
Shown = OfNodes (λ w n xs. IsShown n xs)

shown_next : (w v : World) (m : Moves w v) (n : Node) (k : MoveKind w v m n) (xs : List Configuration) → IsShown m.peer.node xs → IsShown n (xs ++ gains w v m n k)
unfolding fresh_member
shown_next w v m _ (member_goes_on s t at same) xs old =
    let e = subst (EndsIn xs) at old.ends in
    record { stamps = old.stamps ∙ ap (map stamp) (sym (append-nil xs)); rises = old.rises; ends = (e.0, append-nil xs ∙ e.1 ∙ ap (λ c. e.0 ++ c ∷ []) (sym same)) }
shown_next w v m _ (member_installs s heard t u at life) xs old =
    let e = subst (EndsIn xs) at old.ends in
    let now : m.peer.node.installed ≡ map stamp e.0 ++ stamp s.config ∷ [] = old.stamps ∙ ap (map stamp) e.1 ∙ map-append stamp e.0 (s.config ∷ []) in
    record {
      stamps = ap (λ l. l ++ stamp (apply s.config u) ∷ []) old.stamps ∙ sym (map-append stamp xs (apply s.config u ∷ []));
      rises = subst (λ l. HeightsRise (l ++ stamp (apply s.config u) ∷ [])) (sym now) (rise_push (map stamp e.0) (stamp s.config) (stamp (apply s.config u)) (apply_height s.config u) (subst HeightsRise now old.rises));
      ends = cond_both (is_member (apply s.config u) m.peer.node.me) (Member (fresh_member (apply s.config u) m.peer.node.me)) (Removed (apply s.config u)) (EndsIn (xs ++ apply s.config u ∷ [])) (λ e. (xs, refl)) (λ e. tt);
    }
shown_next w v m _ (joiner_goes_on j k at) xs old = record { stamps = old.stamps ∙ ap (map stamp) (sym (append-nil xs)); rises = old.rises; ends = append-nil xs ∙ subst (EndsIn xs) at old.ends }
shown_next w v m _ (joiner_enters j from c at said member) xs old =
    let none : xs ≡ [] = subst (EndsIn xs) at old.ends in
    record { stamps = ap (λ l. map stamp (l ++ c ∷ [])) (sym none); rises = tt; ends = ([], ap (λ l. l ++ c ∷ []) none) }
shown_next w v m _ (stays_out none) xs old = record { stamps = old.stamps ∙ ap (map stamp) (sym (append-nil xs)); rises = old.rises; ends = subst (λ l. EndsIn l m.peer.node.phase) (sym (append-nil xs)) old.ends }

pub shown_kept : (w v : World) → Steps w v → Lived w → PacketsSaid w → Shown w → Shown v
shown_kept w v s lived said old =
    of_nodes_kept (λ w n xs. IsShown n xs) w v s lived said
    (record {
      lasts = λ n xs k. k;
      halts = λ n xs k. record { stamps = k.stamps; rises = k.rises; ends = tt };
      starts = λ me seed. record { stamps = refl; rises = tt; ends = refl };
      moves = λ m n k xs old. shown_next w v m n k xs old;
    })
    old

pub shown_founded : (c : Configuration) → AreMembers c.members → Shown (founded c)
unfolding fresh_member
shown_founded c are = of_nodes_founded (λ w n xs. IsShown n xs) c are (λ me. record { stamps = refl; rises = tt; ends = ([], refl) })

-- ---- each configuration in which somebody is a member was installed by it

-- the configuration was installed
abbrev pub WasInstalled : List Entry → Configuration → Type 0
WasInstalled log c = (f : Entry) × In log f × (f.act ≡ Installed c)

-- p installed the configuration
abbrev pub InstalledBy : List Entry → Process → Configuration → Type 0
InstalledBy log p c = (f : Entry) × In log f × (f.who ≡ p) × (f.act ≡ Installed c)

pub was_installed : (log : List Entry) (p : Process) (c : Configuration) → InstalledBy log p c → WasInstalled log c
was_installed log p c h = (h.0, h.1, h.3)

pub record Present (w : World) : Type 0 where
  pub now : (i : ℕ) (p : Peer) (c : Configuration) → StandsAt w i p → member_in p.node ≡ Some c → InstalledBy w.log p.node.me c
  pub at : (e : Entry) (c : Configuration) → In w.log e → e.at ≡ Some c → InstalledBy w.log e.who c

pub installed_more : (xs ys : List Entry) (p : Process) (c : Configuration) → InstalledBy xs p c → InstalledBy (xs ++ ys) p c
installed_more xs ys p c h = (h.0, in_left xs ys h.0 h.1, h.2, h.3)

pub installed_grows : (w v : World) → Steps w v → (p : Process) (c : Configuration) → InstalledBy w.log p c → InstalledBy v.log p c
installed_grows w v s p c h = let g = log_grows w v s in subst (λ l. InstalledBy l p c) (sym g.1) (installed_more w.log g.0 p c h)

-- the node that makes a step, as it stands
pub move_present : (w v : World) (m : Moves w v) (c : Configuration) → Present w → member_in m.peer.node ≡ Some c → InstalledBy w.log m.peer.node.me c
move_present w v m c k = let q = come_stands w m.place m.peer m.before m.event m.comes in subst (λ (n : Node). member_in n ≡ Some c → InstalledBy w.log n.me c) q.2 (k.now m.place q.0 c q.1)

ends_in : (xs : List Configuration) (ph : Phase) → EndsIn xs ph → (c : Configuration) → member_config ph ≡ Some c → In xs c
ends_in xs (Member s) h c e = subst (In xs) (same_Some _ _ e) (subst (λ l. In l s.config) (sym h.1) (in_right h.0 (s.config ∷ []) s.config (inl refl)))
ends_in xs x h c e = cc

-- a member installed its configuration
shown_present : (w : World) → Shown w → (i : ℕ) (p : Peer) (c : Configuration) → StandsAt w i p → member_in p.node ≡ Some c → InstalledBy w.log p.node.me c
shown_present w shown i p c at m = of_installs w.log p.node.me c (ends_in (installs_in w.log p.node.me) p.node.phase (shown i p at).ends c m)

pub present_kept : (w v : World) → Steps w v → Shown v → Present w → Present v
present_kept w v s shown k =
    record {
      now = shown_present v shown;
      at = λ e c h is. elim (log_new w v s e h) [
        | inl old ↦ installed_grows w v s e.who c (k.at e c old is)
        | inr new ↦ let q = new_at w v e new in subst (λ x. InstalledBy v.log x c) q.3 (installed_grows w v s q.1.node.me c (k.now q.0 q.1 c q.2 (q.4 ∙ is)))
      ];
    }

pub present_founded : (c : Configuration) → AreMembers c.members → Present (founded c)
present_founded c are =
    record {
      now = shown_present (founded c) (shown_founded c are);
      at = λ e d h is. let r = of_map _ c.members e h in absurd (let z : None ≡ Some d = ap (λ (x : Entry). x.at) r.2 ∙ is in cc);
    }
