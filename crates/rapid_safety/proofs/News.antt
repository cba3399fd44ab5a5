-- What was taken was said, and what is said of a vote is said by a member in its configuration.
use Rattle.std.proofs.Common.{◌≡◌, List, [], ◌∷◌, ◌++◌, map, refl, sym, ap, ◌∙◌, inl, inr, ap₂, ◌⊎◌, ℕ, Bool, true, false, cond, subst, Option, Some, None, filter}
use Rattle.rapid_safety.proofs.Basics.{cons_option, filter_map, flat_map, Contains, and_from, cond_both, In, in_split, in_left, in_right, in_map, in_filter, in_from, contains_from, same_bytes_decides}
use Rattle.rapid_safety.proofs.Worlds.{Sent, sent, said_by, taken_by, is_act_in, World, Packet, Did, Entry, MarkedEvent, Act, Peer, Took, Ticked, Probed, Installed, HasHalted, Crashed, is_running, packets_to, packets_of, packet_to, other_members, acts_of, entry, install_acts, moved, founded, run}
use Rattle.rapid_safety.proofs.Values.{Process, endpoint, Configuration, Message, Body}
use Rattle.rapid_safety.proofs.Working.{Output, output_of, outputs, Destination, To, Others, Itself, Effect, Says, Proposes, member_in, Node, Outcome, Event, Receive, joiner_node, halt, configuration_of, has_installed, node_step}
use Rattle.rapid_safety.specs.Packets.{PacketsSent}
use Rattle.rapid_safety.specs.Received.{ReceivedWereSaid}
use Rattle.rapid_safety.proofs.Atoms.{message, taken_in}
use Rattle.rapid_safety.proofs.Steps.{Steps, stays, starts, notes, stops, moves, ends, run_keeps, StandsAt, Comes, by_tick, by_packet, by_probe, by_wish, log_grows}
use Rattle.rapid_safety.proofs.Histories.{get_set, get_push, acts_at, of_option, same_configuration_decides}
use Rattle.rapid_safety.proofs.Members.{of_map, of_flat}
use Rattle.std.proofs.lemmas.Option.{same_Some}

-- p said b, to somebody
abbrev pub SaidIn : List Entry → Process → Body → Type 0
SaidIn log p b = (e : Entry) × (to : Destination) × In log e × (e.who ≡ p) × (e.act ≡ Did (Says to b))

unfoldable pub PacketsSaid : World → Type 0
PacketsSaid w = (x : Packet) → In w.packets x → SaidIn w.log x.message.sender x.message.body

pub said_more : (xs ys : List Entry) (p : Process) (b : Body) → SaidIn xs p b → SaidIn (xs ++ ys) p b
said_more xs ys p b h = (h.0, h.1, in_left xs ys h.0 h.2, h.3, h.4)

-- a packet of an output carries its message
of_others : (ps : List Process) (m : Message) (x : Packet) → In (map (λ p. packet_to m (endpoint p)) ps) x → x.message ≡ m
of_others [] m x h = absurd h
of_others (p ∷ ps) m x (inl h) = ap (λ (y : Packet). y.message) (sym h)
of_others (p ∷ ps) m x (inr h) = of_others ps m x h

of_output : (others : List Process) (m : Message) (to : Destination) (x : Packet) → In (packets_to others m to) x → x.message ≡ m
of_output others m (To e) x (inl h) = ap (λ (y : Packet). y.message) (sym h)
of_output others m (To e) x (inr h) = absurd h
of_output others m Others x h = of_others others m x h
of_output others m Itself x h = absurd h

-- an output is what an effect says
of_effect : (me : Process) (d : Effect) (o : Output) → In (output_of me d) o → (to : Destination) × (b : Body) × (d ≡ Says to b) × (o.message ≡ record { sender = me; body = b })
of_effect me (Says (To e) b) o (inl h) = (To e, b, refl, ap (λ (y : Output). y.message) (sym h))
of_effect me (Says (To e) b) o (inr h) = absurd h
of_effect me (Says Others b) o (inl h) = (Others, b, refl, ap (λ (y : Output). y.message) (sym h))
of_effect me (Says Others b) o (inr h) = absurd h
of_effect me (Says Itself b) o h = absurd h
of_effect me (Proposes v) o h = absurd h

packet_of_effects : (others : List Process) (me : Process) (ds : List Effect) (x : Packet) → In (flat_map (packets_of others) (outputs me ds)) x →
    (to : Destination) × (b : Body) × In ds (Says to b) × (x.message ≡ record { sender = me; body = b })
packet_of_effects others me ds x h =
    let o = of_flat (packets_of others) (outputs me ds) x h in
    let e = of_flat (output_of me) ds o.0 o.1 in
    let r = of_effect me e.0 o.0 e.2 in
    (r.0, r.1, subst (In ds) r.2 e.1, of_output others o.0.message o.0.to x o.2 ∙ r.3)

pub sent_kept : (w v : World) → Steps w v → PacketsSaid w → PacketsSaid v
unfolding PacketsSaid
sent_kept w _ stays k = k
sent_kept w _ (starts p seed r) k = k
sent_kept w _ (notes i p c n s ok at ob) k = λ x h. said_more w.log _ _ _ (k x h)
sent_kept w _ (stops i p before e c r) k = λ x h. said_more w.log _ _ _ (k x h)
sent_kept w _ (ends i p at) k = λ x h. said_more w.log _ _ _ (k x h)
sent_kept w _ (moves i p before e o c run st) k = λ x h.
    elim (in_split w.packets _ x h) [
      | inl old ↦ said_more w.log _ _ _ (k x old)
      | inr new ↦
          let r = packet_of_effects (other_members (member_in p.node) p.node.me) p.node.me o.effects x new in
          let act : In (acts_of before p.node o) (Did (Says r.0 r.1)) =
          in_left (before ++ map Did o.effects) _ _ (in_right before _ _ (in_map Did o.effects (Says r.0 r.1) r.2)) in (
            entry p.node (Did (Says r.0 r.1)),
            r.0,
            in_right w.log _ _ (in_map (entry p.node) _ _ act),
            sym (ap (λ (m : Message). m.sender) r.3),
            ap (λ b. Did (Says r.0 b)) (sym (ap (λ (m : Message). m.body) r.3)),
          )
    ]

pub none_sent : (c : Configuration) → PacketsSaid (founded c)
unfolding PacketsSaid
none_sent c x h = absurd h

pub packets_said : (c : Configuration) (es : List MarkedEvent) → PacketsSaid (run es (founded c))
packets_said c es = run_keeps PacketsSaid sent_kept es (founded c) (none_sent c)

-- ---- sent and said

pub sent_said : (log : List Entry) (p : Process) (b : Body) → In (filter_map (λ e. said_by e.who e.act) log) (message p b) → SaidIn log p b
sent_said [] p b h = absurd h
sent_said (e ∷ log) p b h = by e.act refl h (sent_said log p b)
  where
    later : SaidIn log p b → SaidIn (e ∷ log) p b
    later r = (r.0, r.1, inr r.2, r.3, r.4)

    by : (a : Act) → e.act ≡ a → In (cons_option (said_by e.who a) (filter_map (λ x. said_by x.who x.act) log)) (message p b) → (In (filter_map (λ x. said_by x.who x.act) log) (message p b) → SaidIn log p b) → SaidIn (e ∷ log) p b
    by (Did (Says to c)) is (inl s) f = (e, to, inl refl, ap (λ (m : Message). m.sender) s, is ∙ ap (λ (m : Message). Did (Says to m.body)) s)
    by (Did (Says to c)) is (inr i) f = later (f i)
    by x is i f = later (f i)

pub said_sent : (w : World) (p : Process) (b : Body) → SaidIn w.log p b → Sent w p b
said_sent w p b s = contains_from (sent w) (message p b) (in_filter (λ (e : Entry). said_by e.who e.act) w.log s.0 (message p b) s.2 (Rattle.std.proofs.Common.ap₂ said_by s.3 s.4))

-- ---- in the words of the definitions

pub packets_were_sent : (c : Configuration) (es : List MarkedEvent) → PacketsSent (run es (founded c))
unfolding PacketsSaid
packets_were_sent c es x h =
    let w = run es (founded c) in
    let said = packets_said c es x (in_from w.packets x h) in
    contains_from (sent w) x.message
    (in_filter (λ (e : Entry). said_by e.who e.act) w.log said.0 x.message said.2 (ap₂ said_by said.3 said.4))

-- ---- what is new after a step of a world: in its log and in its nodes

-- the node of a peer makes a step
pub record Moves (w v : World) : Type 0 where
  pub place : ℕ
  pub peer : Peer
  pub before : List Act
  pub event : Event
  pub outcome : Outcome
  pub comes : Comes w place peer before event
  pub runs : is_running peer ≡ true
  pub steps : node_step peer.node event ≡ Some outcome
  pub is : v ≡ moved w place peer before outcome

-- the peer to which something comes, as it stands
pub come_stands : (w : World) (i : ℕ) (p : Peer) (before : List Act) (e : Event) → Comes w i p before e → (q : Peer) × (StandsAt w i q) × (q.node ≡ p.node)
come_stands w i p _ _ (by_tick _ at) = (p, at, refl)
come_stands w i p _ _ (by_packet _ x at sent to) = (p, at, refl)
come_stands w i p _ _ (by_wish _ at) = (p, at, refl)
come_stands w i _ _ _ (by_probe p c k s ok at ob down) = (p, at, refl)

-- the message that comes was said
pub came_said : (w : World) (i : ℕ) (p : Peer) (before : List Act) (e : Event) (m : Message) → Comes w i p before e → PacketsSaid w → e ≡ Receive m → SaidIn w.log m.sender m.body
unfolding PacketsSaid
came_said w i p _ _ m (by_tick _ at) said is = cc
came_said w i p _ _ m (by_packet _ x at sent to) said is = let same : x.message ≡ m = cc in subst (λ (z : Message). SaidIn w.log z.sender z.body) same (said x (in_from w.packets x sent))
came_said w i p _ _ m (by_wish _ at) said is = cc
came_said w i _ _ _ m (by_probe p c k s ok at ob down) said is = cc

-- ---- the log

-- an act by which nothing is taken, done or installed
abbrev pub IsQuietAct : Act → Type 0
IsQuietAct (Took m) = ⊥
IsQuietAct (Did x) = ⊥
IsQuietAct (Installed c) = ⊥
IsQuietAct a = Unit {0}

-- an entry that is new: a quiet act or a message taken, of a peer that stands there, or what a step did or installed
pub data IsNew (w v : World) (e : Entry) : Type 0 where
  quiet : (i : ℕ) (p : Peer) (a : Act) → StandsAt w i p → IsQuietAct a → entry p.node a ≡ e → IsNew w v e
  takes : (i : ℕ) (p : Peer) (x : Packet) → StandsAt w i p → Contains w.packets x → entry p.node (Took x.message) ≡ e → IsNew w v e
  does : (m : Moves w v) (x : Effect) → In m.outcome.effects x → entry m.peer.node (Did x) ≡ e → IsNew w v e
  enters : (m : Moves w v) (c : Configuration) → In (install_acts m.peer.node m.outcome.node (configuration_of m.outcome.node)) (Installed c) → entry m.peer.node (Installed c) ≡ e → IsNew w v e

pub entry_in : (n : Node) (xs : List Act) (e : Entry) → In (map (entry n) xs) e → (a : Act) × In xs a × (entry n a ≡ e)
entry_in n xs e h = of_map (entry n) xs e h

-- what comes is new
came_new : (w v : World) (i : ℕ) (p : Peer) (before : List Act) (e : Event) (a : Act) (x : Entry) → Comes w i p before e → In before a → entry p.node a ≡ x → IsNew w v x
came_new w v i p _ _ a x (by_tick _ at) (inl s) is = quiet i p Ticked at tt (ap (entry p.node) s ∙ is)
came_new w v i p _ _ a x (by_packet _ y at sent to) (inl s) is = takes i p y at sent (ap (entry p.node) s ∙ is)
came_new w v i _ _ _ a x (by_probe p c k q ok at ob down) (inl s) is = quiet i p (Probed k ok) at tt (ap (entry p.node) s ∙ is)
came_new w v i p _ _ a x (by_wish _ at) n is = absurd n
came_new w v i p _ _ a x (by_tick _ at) (inr n) is = absurd n
came_new w v i p _ _ a x (by_packet _ y at sent to) (inr n) is = absurd n
came_new w v i _ _ _ a x (by_probe p c k q ok at ob down) (inr n) is = absurd n

installed_is : (n m : Node) (o : Option Configuration) (a : Act) → In (install_acts n m o) a → (c : Configuration) × (Installed c ≡ a)
installed_is n m None a h = absurd h
installed_is n m (Some c) a h =
    cond_both (has_installed n m) (Installed c ∷ []) [] (λ l. In l a → (d : Configuration) × (Installed d ≡ a)) (λ e i. elim i [ inl s ↦ (c, s) | inr n ↦ absurd n ]) (λ e i. absurd i) h

-- what a step did or installed is new
moved_new : (w v : World) (m : Moves w v) (a : Act) (e : Entry) → In (acts_of m.before m.peer.node m.outcome) a → entry m.peer.node a ≡ e → IsNew w v e
moved_new w v m a e h is =
    elim (in_split (m.before ++ map Did m.outcome.effects) (install_acts m.peer.node m.outcome.node (configuration_of m.outcome.node)) a h) [
      | inl x ↦ elim (in_split m.before (map Did m.outcome.effects) a x) [
        | inl y ↦ came_new w v m.place m.peer m.before m.event a e m.comes y is
        | inr y ↦ let r = of_map Did m.outcome.effects a y in does m r.0 r.1 (ap (entry m.peer.node) r.2 ∙ is)
      ]
      | inr x ↦ let r = installed_is m.peer.node m.outcome.node (configuration_of m.outcome.node) a x in
          enters m r.0 (subst (In (install_acts m.peer.node m.outcome.node (configuration_of m.outcome.node))) (sym r.1) x) (ap (entry m.peer.node) r.1 ∙ is)
    ]

halted_new : (w v : World) (i : ℕ) (p : Peer) (before : List Act) (ev : Event) (a : Act) (e : Entry) → Comes w i p before ev → In (before ++ HasHalted ∷ []) a → entry p.node a ≡ e → IsNew w v e
halted_new w v i p before ev a e c h is =
    elim (in_split before (HasHalted ∷ []) a h) [
      | inl y ↦ came_new w v i p before ev a e c y is
      | inr y ↦ elim y [ inl s ↦ let q = come_stands w i p before ev c in quiet i q.0 HasHalted q.1 tt (ap (λ n. entry n HasHalted) q.2 ∙ ap (entry p.node) s ∙ is) | inr n ↦ absurd n ]
    ]

pub log_new : (w v : World) → Steps w v → (e : Entry) → In v.log e → In w.log e ⊎ IsNew w v e
log_new w _ stays e h = inl h
log_new w _ (starts p seed r) e h = inl h
log_new w v (notes i p c k s ok at ob) e h = elim (in_split w.log (entry p.node (Probed k ok) ∷ []) e h) [ inl old ↦ inl old | inr new ↦ elim new [ inl s ↦ inr (quiet i p (Probed k ok) at tt s) | inr n ↦ absurd n ] ]
log_new w v (stops i p before ev c r) e h =
    elim (in_split w.log (map (entry p.node) (before ++ HasHalted ∷ [])) e h) [ inl old ↦ inl old | inr new ↦ let x = entry_in p.node _ e new in inr (halted_new w v i p before ev x.0 e c x.1 x.2) ]
log_new w v (moves i p before ev o c r st) e h =
    elim (in_split w.log (map (entry p.node) (acts_of before p.node o)) e h) [
      | inl old ↦ inl old
      | inr new ↦ let x = entry_in p.node _ e new in inr (moved_new w v (record { place = i; peer = p; before = before; event = ev; outcome = o; comes = c; runs = r; steps = st; is = refl }) x.0 e x.1 x.2)
    ]
log_new w v (ends i p at) e h = elim (in_split w.log (entry p.node Crashed ∷ []) e h) [ inl old ↦ inl old | inr new ↦ elim new [ inl s ↦ inr (quiet i p Crashed at tt s) | inr n ↦ absurd n ] ]

-- a new entry is one of a peer that stands there
pub new_at : (w v : World) (e : Entry) → IsNew w v e → (i : ℕ) × (p : Peer) × (StandsAt w i p) × (p.node.me ≡ e.who) × (member_in p.node ≡ e.at)
new_at w v e (quiet i p a at q is) = (i, p, at, ap (λ (x : Entry). x.who) is, ap (λ (x : Entry). x.at) is)
new_at w v e (takes i p x at sent is) = (i, p, at, ap (λ (x : Entry). x.who) is, ap (λ (x : Entry). x.at) is)
new_at w v e (does m x h is) = let q = come_stands w m.place m.peer m.before m.event m.comes in (m.place, q.0, q.1, ap (λ (n : Node). n.me) q.2 ∙ ap (λ (x : Entry). x.who) is, ap member_in q.2 ∙ ap (λ (x : Entry). x.at) is)
new_at w v e (enters m c h is) = let q = come_stands w m.place m.peer m.before m.event m.comes in (m.place, q.0, q.1, ap (λ (n : Node). n.me) q.2 ∙ ap (λ (x : Entry). x.who) is, ap member_in q.2 ∙ ap (λ (x : Entry). x.at) is)

-- what is newly said is an effect of the step
pub record SaidNow (w v : World) (e : Entry) (to : Destination) (b : Body) : Type 0 where
  pub move : Moves w v
  pub effect : In move.outcome.effects (Says to b)
  pub by : entry move.peer.node (Did (Says to b)) ≡ e

pub said_new : (w v : World) → Steps w v → (e : Entry) (to : Destination) (b : Body) → In v.log e → e.act ≡ Did (Says to b) → In w.log e ⊎ SaidNow w v e to b
said_new w v s e to b h is = elim (log_new w v s e h) [ inl old ↦ inl old | inr new ↦ inr (by new) ]
  where
    by : IsNew w v e → SaidNow w v e to b
    by (does m x i same) =
        let act : Did x ≡ Did (Says to b) = ap (λ (y : Entry). y.act) same ∙ is in
        let effect : x ≡ Says to b = cc in
        record { move = m; effect = subst (In m.outcome.effects) effect i; by = ap (entry m.peer.node) (sym act) ∙ same }
    by (quiet i p a at q same) = absurd (subst IsQuietAct (ap (λ (y : Entry). y.act) same ∙ is) q)
    by (takes i p x at sent same) = absurd (let z : Took x.message ≡ Did (Says to b) = ap (λ (y : Entry). y.act) same ∙ is in cc)
    by (enters m c i same) = absurd (let z : Installed c ≡ Did (Says to b) = ap (λ (y : Entry). y.act) same ∙ is in cc)

-- what is newly installed is installed by the step
pub record InstalledNow (w v : World) (e : Entry) (c : Configuration) : Type 0 where
  pub move : Moves w v
  pub act : In (install_acts move.peer.node move.outcome.node (configuration_of move.outcome.node)) (Installed c)
  pub by : entry move.peer.node (Installed c) ≡ e

pub installed_new : (w v : World) → Steps w v → (e : Entry) (c : Configuration) → In v.log e → e.act ≡ Installed c → In w.log e ⊎ InstalledNow w v e c
installed_new w v s e c h is = elim (log_new w v s e h) [ inl old ↦ inl old | inr new ↦ inr (by new) ]
  where
    by : IsNew w v e → InstalledNow w v e c
    by (enters m d i same) =
        let act : Installed d ≡ Installed c = ap (λ (y : Entry). y.act) same ∙ is in
        record { move = m; act = subst (In (install_acts m.peer.node m.outcome.node (configuration_of m.outcome.node))) act i; by = ap (entry m.peer.node) (sym act) ∙ same }
    by (quiet i p a at q same) = absurd (subst IsQuietAct (ap (λ (y : Entry). y.act) same ∙ is) q)
    by (takes i p x at sent same) = absurd (let z : Took x.message ≡ Installed c = ap (λ (y : Entry). y.act) same ∙ is in cc)
    by (does m x i same) = absurd (let z : Did x ≡ Installed c = ap (λ (y : Entry). y.act) same ∙ is in cc)

-- a message that is newly taken was said
pub took_new : (w v : World) → Steps w v → PacketsSaid w → (e : Entry) (m : Message) → In v.log e → e.act ≡ Took m → In w.log e ⊎ SaidIn w.log m.sender m.body
unfolding PacketsSaid
took_new w v s said e m h is = elim (log_new w v s e h) [ inl old ↦ inl old | inr new ↦ inr (by new) ]
  where
    by : IsNew w v e → SaidIn w.log m.sender m.body
    by (takes i p x at sent same) =
        let act : Took x.message ≡ Took m = ap (λ (y : Entry). y.act) same ∙ is in
        let message : x.message ≡ m = cc in
        subst (λ (z : Message). SaidIn w.log z.sender z.body) message (said x (in_from w.packets x sent))
    by (quiet i p a at q same) = absurd (subst IsQuietAct (ap (λ (y : Entry). y.act) same ∙ is) q)
    by (does k x i same) = absurd (let z : Did x ≡ Took m = ap (λ (y : Entry). y.act) same ∙ is in cc)
    by (enters k c i same) = absurd (let z : Installed c ≡ Took m = ap (λ (y : Entry). y.act) same ∙ is in cc)

-- the act of a step stands in the log after it
pub act_stands : (w v : World) (m : Moves w v) (a : Act) → In (acts_of m.before m.peer.node m.outcome) a → In v.log (entry m.peer.node a)
act_stands w v m a h = subst (λ (x : World). In x.log (entry m.peer.node a)) (sym m.is) (in_right w.log _ _ (in_map (entry m.peer.node) _ a h))

-- ---- the nodes

-- a node after a step: as it was, halted, started, or after its step
pub data NodeNew (w v : World) (i : ℕ) (n : Node) : Type 0 where
  as_it_was : (q : Peer) → StandsAt w i q → q.node ≡ n → NodeNew w v i n
  has_halted : (q : Peer) → StandsAt w i q → halt q.node ≡ n → NodeNew w v i n
  has_started : (me : Process) (seed : List ℕ) → joiner_node me seed ≡ n → NodeNew w v i n
  has_moved : (m : Moves w v) → m.outcome.node ≡ n → NodeNew w v i n

pub node_new : (w v : World) → Steps w v → (i : ℕ) (p : Peer) → StandsAt v i p → NodeNew w v i p.node
node_new w v stays i p h = as_it_was p h refl
node_new w v (starts me seed r) i p h = elim (get_push w.peers i _ p h) [ inl x ↦ as_it_was p x refl | inr x ↦ has_started me seed (ap (λ (z : Peer). z.node) (sym x.1)) ]
node_new w v (notes j q c k s ok at ob) i p h =
    elim (get_set w.peers j i _ p h) [ inl r ↦ as_it_was q (subst (λ k. StandsAt w k q) (sym r.0) at) (ap (λ (z : Peer). z.node) (sym r.1)) | inr r ↦ as_it_was p r.1 refl ]
node_new w v (stops j q before e c r) i p h =
    elim (get_set w.peers j i _ p h) [
      | inl x ↦ let s = come_stands w j q before e c in has_halted s.0 (subst (λ k. StandsAt w k s.0) (sym x.0) s.1) (ap halt s.2 ∙ ap (λ (z : Peer). z.node) (sym x.1))
      | inr x ↦ as_it_was p x.1 refl
    ]
node_new w v (moves j q before e o c r st) i p h =
    elim (get_set w.peers j i _ p h) [
      | inl x ↦ has_moved (record { place = j; peer = q; before = before; event = e; outcome = o; comes = c; runs = r; steps = st; is = refl }) (ap (λ (z : Peer). z.node) (sym x.1))
      | inr x ↦ as_it_was p x.1 refl
    ]
node_new w v (ends j q at) i p h =
    elim (get_set w.peers j i _ p h) [ inl r ↦ as_it_was q (subst (λ k. StandsAt w k q) (sym r.0) at) (ap (λ (z : Peer). z.node) (sym r.1)) | inr r ↦ as_it_was p r.1 refl ]

-- ---- what was taken was said, and what is said of a vote is said by a member in its configuration

-- ---- what stands in a log and in acts

pub from_acts : (log : List Entry) (p : Process) (c : Configuration) (a : Act) → In (acts_at log p c) a → (e : Entry) × In log e × (e.who ≡ p) × (e.at ≡ Some c) × (e.act ≡ a)
from_acts [] p c a h = absurd h
from_acts (e ∷ log) p c a h = by (is_act_in p c e) refl h (from_acts log p c a)
  where
    by : (b : Bool) → is_act_in p c e ≡ b → In (map (λ x. x.act) (cond b (e ∷ filter (is_act_in p c) log) (filter (is_act_in p c) log))) a →
        (In (acts_at log p c) a → (x : Entry) × In log x × (x.who ≡ p) × (x.at ≡ Some c) × (x.act ≡ a)) → (x : Entry) × In (e ∷ log) x × (x.who ≡ p) × (x.at ≡ Some c) × (x.act ≡ a)
    by true is (inl s) f = let r = Rattle.std.proofs.lemmas.Bool.and_parts _ _ is in (e, inl refl, sym ((same_bytes_decides p e.who).0 r.0), of_option e.at c r.1, s)
    by true is (inr i) f = let r = f i in (r.0, inr r.1, r.2, r.3, r.4)
    by false is i f = let r = f i in (r.0, inr r.1, r.2, r.3, r.4)

pub to_acts : (log : List Entry) (p : Process) (c : Configuration) (e : Entry) → In log e → e.who ≡ p → e.at ≡ Some c → In (acts_at log p c) e.act
to_acts [] p c e h who at = absurd h
to_acts (x ∷ log) p c e (inl s) who at = subst (λ b. In (map (λ (z : Entry). z.act) (cond b (x ∷ filter (is_act_in p c) log) (filter (is_act_in p c) log))) e.act) (sym here) (inl (ap (λ (z : Entry). z.act) s))
  where
    here : is_act_in p c x ≡ true
    here = and_from _ _ ((same_bytes_decides p x.who).1 (sym (ap (λ (z : Entry). z.who) s ∙ who)))
        (ap (λ o. Rattle.std.specs.Option.option_eq Rattle.rapid_model.specs.Configuration.same_configuration o (Some c)) (ap (λ (z : Entry). z.at) s ∙ at) ∙ (same_configuration_decides c c).1 refl)
to_acts (x ∷ log) p c e (inr i) who at =
    cond_both (is_act_in p c x) (x ∷ filter (is_act_in p c) log) (filter (is_act_in p c) log) (λ l. In (map (λ (z : Entry). z.act) l) e.act) (λ g. inr (to_acts log p c e i who at)) (λ g. to_acts log p c e i who at)

-- ---- what was taken was said

unfoldable pub TookSaid : World → Type 0
TookSaid w = (e : Entry) (m : Message) → In w.log e → e.act ≡ Took m → SaidIn w.log m.sender m.body

abbrev pub Heard : World → Type 0
Heard w = PacketsSaid w × TookSaid w

pub took_kept : (w v : World) → Steps w v → PacketsSaid w → TookSaid w → TookSaid v
unfolding TookSaid
took_kept w v s said k e m h is =
    let g = log_grows w v s in
    subst (λ l. SaidIn l m.sender m.body) (sym g.1) (said_more w.log g.0 _ _ (elim (took_new w v s said e m h is) [ inl old ↦ k e m old is | inr x ↦ x ]))

pub none_took : (c : Configuration) → TookSaid (founded c)
unfolding TookSaid
none_took c e m h is = let r = of_map _ c.members e h in absurd (let z : Installed c ≡ Took m = ap (λ (x : Entry). x.act) r.2 ∙ is in cc)

pub took_said : (c : Configuration) (es : List MarkedEvent) → TookSaid (run es (founded c))
took_said c es = (run_keeps Heard (λ w v s h. (sent_kept w v s h.0, took_kept w v s h.0 h.1)) es (founded c) (none_sent c, none_took c)).1

-- what is known was said
pub known_said : (w : World) → TookSaid w → (p q : Process) (c : Configuration) (b : Body) → In (taken_in p (acts_at w.log p c)) (message q b) → SaidIn w.log q b
unfolding TookSaid
known_said w took p q c b h =
    let a = of_filter (taken_by p) (acts_at w.log p c) (message q b) h in
    let e = from_acts w.log p c a.0 a.1 in
    by a.0 e.0 e.1 e.2 e.4 a.2
  where
    of_filter : (f : Act → Option Message) (xs : List Act) (y : Message) → In (filter_map f xs) y → (x : Act) × In xs x × (f x ≡ Some y)
    of_filter f [] y h = absurd h
    of_filter f (x ∷ xs) y h = pick (f x) refl h (of_filter f xs y)
      where
        pick : (o : Option Message) → f x ≡ o → In (cons_option o (filter_map f xs)) y → (In (filter_map f xs) y → (z : Act) × In xs z × (f z ≡ Some y)) → (z : Act) × In (x ∷ xs) z × (f z ≡ Some y)
        pick None is i g = let r = g i in (r.0, inr r.1, r.2)
        pick (Some m) is (inl s) g = (x, inl refl, is ∙ ap Some s)
        pick (Some m) is (inr i) g = let r = g i in (r.0, inr r.1, r.2)

    own : (to : Destination) (d : Body) → Rattle.rapid_model.specs.History.own_word p to d ≡ Some (message q b) → (p ≡ q) × (d ≡ b)
    own (To e) d s = cc
    own Others d s = let m = same_Some _ _ s in (ap (λ (z : Message). z.sender) m, ap (λ (z : Message). z.body) m)
    own Itself d s = let m = same_Some _ _ s in (ap (λ (z : Message). z.sender) m, ap (λ (z : Message). z.body) m)

    by : (a : Act) (e : Entry) → In w.log e → e.who ≡ p → e.act ≡ a → taken_by p a ≡ Some (message q b) → SaidIn w.log q b
    by (Took m) e i who act s = let same : m ≡ message q b = cc in subst (λ (z : Message). SaidIn w.log z.sender z.body) same (took e m i act)
    by (Did (Says to d)) e i who act s = let r = own to d s in (e, to, i, who ∙ r.0, act ∙ ap (λ z. Did (Says to z)) r.1)
    by x e i who act s = cc

pub received_were_said : (c : Configuration) (es : List MarkedEvent) → ReceivedWereSaid (run es (founded c))
received_were_said c es p d q b h =
    let w = run es (founded c) in
    let s = known_said w (took_said c es) p q d b (in_from _ _ h) in
    contains_from (sent w) (message q b) (in_filter (λ (e : Entry). said_by e.who e.act) w.log s.0 (message q b) s.2 (Rattle.std.proofs.Common.ap₂ said_by s.3 s.4))
