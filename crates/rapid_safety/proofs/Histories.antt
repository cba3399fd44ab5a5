-- Each step of a world keeps the lives of its members.
use Rattle.std.proofs.Common.{◌≡◌, ◌≢◌, ◌⊎◌, inl, inr, ℕ, zero, suc, Bool, true, false, cond, ◌&&◌, ◌==◌, List, [], ◌∷◌, ◌++◌, map, filter, refl, ap, subst, ◌∙◌, Option, Some, None, arith, append-nil, ◌<◌, ◌+◌, sym, unwrap_or, append_assoc}
use Rattle.rapid_safety.proofs.Basics.{slice_get, slice_set, length, nat_lt, filter_map, IsTrue, option_eq, option_map, is_eq, and_parts, and_from, false_from_ne_true, cond_both, map-append, filter-append, filter_map-append, range_with_len, cons_option, processes_total, processes_exact, same_bytes_decides, tie_decides, In, in_split}
use Rattle.std.specs.Bool.{Decides}
use Rattle.std.specs.Cmp.Lexicographic.{slice_cmp, lists_total}
use Rattle.std.specs.FinSet.{slice_cmp-IsAntisymmetric}
use Rattle.rapid_safety.proofs.Values.{Process, process_cmp, same_bytes, identifier, Configuration, same_configuration, configuration_id, observers_of, rings, subject_on, Cut, Message}
use Rattle.rapid_safety.proofs.Working.{Node, member_in, Phase, Joining, Member, Removed, Halted, MemberState, Effect, Outcome, Event, has_installed, configuration_of, member_config, node_step}
use Rattle.rapid_safety.proofs.Worlds.{Act, Entry, observed_in, World, Peer, Packet, Took, Did, Ticked, Probed, Installed, HasHalted, entry, windows_in, edge_on, install_acts, acts_of, is_act_in, result_on}
use Rattle.rapid_safety.proofs.Parts.{Edge, fresh_edge, edge_after, probed, HasDownStretch, Monitors, edge_at, Joiner}
use Rattle.rapid_model.proofs.Edges.{down_is_stretch}
use Rattle.rapid_safety.proofs.Atoms.{taken_in, Lives, marks, ticks, does, lives_me}
use Rattle.rapid_safety.proofs.Steps.{StandsAt, Comes, by_tick, by_packet, by_probe, by_wish}
use Rattle.rapid_safety.proofs.NodeWorks.{Stepped, ticks_step, receive_step, probe_step, leave_step}
use Rattle.std.proofs.lemmas.Option.{same_Some}

-- what happened at p in c
abbrev pub acts_at : List Entry → Process → Configuration → List Act
acts_at log p c = map (λ e. e.act) (filter (is_act_in p c) log)

-- ---- two configurations are the same exactly if the test says so

same_members : (xs ys : List Process) → Decides (is_eq (slice_cmp process_cmp xs ys)) (xs ≡ ys)
same_members xs ys = tie_decides (lists_total processes_total) (slice_cmp-IsAntisymmetric processes_exact) xs ys

same_number : (m n : ℕ) → (m == n) ≡ true → m ≡ n
same_number m n h = Prim.grind arith

number_itself : (n : ℕ) → (n == n) ≡ true
number_itself n = Prim.grind arith

pub same_configuration_decides : (c d : Configuration) → Decides (same_configuration c d) (c ≡ d)
same_configuration_decides c d = (there, λ e. subst (λ x. same_configuration c x ≡ true) e itself)
  where
    there : same_configuration c d ≡ true → c ≡ d
    there h =
        let p5 = and_parts _ _ h in
        let p4 = and_parts _ _ p5.0 in
        let p3 = and_parts _ _ p4.0 in
        let p2 = and_parts _ _ p3.0 in
        let p1 = and_parts _ _ p2.0 in
        let k = same_number c.params.k d.params.k p1.0 in
        let hh = same_number c.params.h d.params.h p1.1 in
        let l = same_number c.params.l d.params.l p2.1 in
        let height = same_number c.height d.height p3.1 in
        let previous = (same_bytes_decides c.previous d.previous).0 p4.1 in
        let members = (same_members c.members d.members).0 p5.1 in
        λ i. record { params = record { k = k i; h = hh i; l = l i }; height = height i; previous = previous i; members = members i }

    itself : same_configuration c c ≡ true
    itself =
        and_from _ _ (and_from _ _ (and_from _ _ (and_from _ _ (and_from _ _ (number_itself c.params.k) (number_itself c.params.h)) (number_itself c.params.l)) (number_itself c.height)) ((same_bytes_decides c.previous c.previous).1 refl))
        ((same_members c.members c.members).1 refl)

-- ---- logs

pub acts-append : (xs ys : List Entry) (p : Process) (c : Configuration) → acts_at (xs ++ ys) p c ≡ acts_at xs p c ++ acts_at ys p c
acts-append xs ys p c = ap (map (λ e. e.act)) (filter-append (is_act_in p c) xs ys) ∙ map-append (λ e. e.act) (filter (is_act_in p c) xs) (filter (is_act_in p c) ys)

-- the node is p and a member of c
abbrev pub is_here : Process → Configuration → Node → Bool
is_here p c n = same_bytes p n.me && option_eq same_configuration (member_in n) (Some c)

here_all : (p : Process) (c : Configuration) (n : Node) (b : Bool) → is_here p c n ≡ b → (xs : List Act) → acts_at (map (entry n) xs) p c ≡ cond b xs []
here_all p c n true e [] = refl
here_all p c n false e [] = refl
here_all p c n true e (a ∷ xs) = ap (λ t. map (λ x. x.act) (cond t (entry n a ∷ filter (is_act_in p c) (map (entry n) xs)) (filter (is_act_in p c) (map (entry n) xs)))) e ∙ ap (λ l. a ∷ l) (here_all p c n true e xs)
here_all p c n false e (a ∷ xs) = ap (λ t. map (λ x. x.act) (cond t (entry n a ∷ filter (is_act_in p c) (map (entry n) xs)) (filter (is_act_in p c) (map (entry n) xs)))) e ∙ here_all p c n false e xs

pub acts_here : (log : List Entry) (p : Process) (c : Configuration) (n : Node) (xs : List Act) → is_here p c n ≡ true → acts_at (log ++ map (entry n) xs) p c ≡ acts_at log p c ++ xs
acts_here log p c n xs e = acts-append log (map (entry n) xs) p c ∙ ap (λ l. acts_at log p c ++ l) (here_all p c n true e xs)

pub acts_elsewhere : (log : List Entry) (p : Process) (c : Configuration) (n : Node) (xs : List Act) → is_here p c n ≡ false → acts_at (log ++ map (entry n) xs) p c ≡ acts_at log p c
acts_elsewhere log p c n xs e = acts-append log (map (entry n) xs) p c ∙ ap (λ l. acts_at log p c ++ l) (here_all p c n false e xs) ∙ append-nil (acts_at log p c)

-- who is a member of c is there
pub here_from : (c : Configuration) (n : Node) → member_in n ≡ Some c → is_here n.me c n ≡ true
here_from c n h = and_from _ _ ((same_bytes_decides n.me n.me).1 refl) (ap (λ o. option_eq same_configuration o (Some c)) h ∙ (same_configuration_decides c c).1 refl)

pub of_option : (o : Option Configuration) (c : Configuration) → option_eq same_configuration o (Some c) ≡ true → o ≡ Some c
of_option None c h = cc
of_option (Some d) c h = ap Some ((same_configuration_decides d c).0 h)

pub here_to : (p : Process) (c : Configuration) (n : Node) → is_here p c n ≡ true → (p ≡ n.me) × (member_in n ≡ Some c)
here_to p c n h = let r = and_parts _ _ h in ((same_bytes_decides p n.me).0 r.0, of_option (member_in n) c r.1)

-- what is no member of c is not there
pub elsewhere : (p : Process) (c : Configuration) (n : Node) → (p ≡ n.me → member_in n ≡ Some c → ⊥) → is_here p c n ≡ false
elsewhere p c n apart = false_from_ne_true _ (λ e. let r = here_to p c n e in apart r.0 r.1)

-- ---- places

pub get_set : {A : Type 0} (xs : List A) (i j : ℕ) (x y : A) → slice_get (slice_set xs i x) j ≡ Some y → ((j ≡ i) × (y ≡ x)) ⊎ ((j ≢ i) × (slice_get xs j ≡ Some y))
get_set [] i j x y h = cc
get_set (z ∷ zs) zero zero x y h = inl (refl, cc)
get_set (z ∷ zs) zero (suc j) x y h = inr (λ e. omega arith, h)
get_set (z ∷ zs) (suc i) zero x y h = inr (λ e. omega arith, h)
get_set (z ∷ zs) (suc i) (suc j) x y h = elim (get_set zs i j x y h) [ inl r ↦ inl (ap suc r.0, r.1) | inr r ↦ inr (λ e. r.0 (omega arith), r.1) ]

pub set_get : {A : Type 0} (xs : List A) (i j : ℕ) (x y : A) → slice_get xs j ≡ Some y → (slice_get (slice_set xs i x) j ≡ Some y) ⊎ ((j ≡ i) × (slice_get (slice_set xs i x) j ≡ Some x))
set_get [] i j x y h = cc
set_get (z ∷ zs) zero zero x y h = inr (refl, refl)
set_get (z ∷ zs) zero (suc j) x y h = inl h
set_get (z ∷ zs) (suc i) zero x y h = inl h
set_get (z ∷ zs) (suc i) (suc j) x y h = elim (set_get zs i j x y h) [ inl r ↦ inl r | inr r ↦ inr (ap suc r.0, r.1) ]

pub get_push : {A : Type 0} (xs : List A) (j : ℕ) (x y : A) → slice_get (xs ++ x ∷ []) j ≡ Some y → (slice_get xs j ≡ Some y) ⊎ ((j ≡ length xs) × (y ≡ x))
get_push [] zero x y h = inr (refl, cc)
get_push [] (suc j) x y h = cc
get_push (z ∷ zs) zero x y h = inl h
get_push (z ∷ zs) (suc j) x y h = elim (get_push zs j x y h) [ inl r ↦ inl r | inr r ↦ inr (ap suc r.0, r.1) ]

pub push_get : {A : Type 0} (xs : List A) (j : ℕ) (x y : A) → slice_get xs j ≡ Some y → slice_get (xs ++ x ∷ []) j ≡ Some y
push_get [] j x y h = cc
push_get (z ∷ zs) zero x y h = h
push_get (z ∷ zs) (suc j) x y h = push_get zs j x y h

-- ---- the probe windows of a member: one on each ring on which it observes another

-- there is a window on each ring on which me observes another in c
abbrev pub Sees : Configuration → Process → Monitors → Type 0
Sees c me edges = (k : ℕ) (x : Configuration × Process) → observed_in (Some c) me k ≡ Some x → (e : Edge) × (edge_at edges k ≡ Some e)

-- ---- a window that is set

set_here : (edges : Monitors) (k : ℕ) (e y : Edge) → edge_at edges k ≡ Some e → edge_at (slice_set edges k (Some y)) k ≡ Some y
set_here [] k e y h = cc
set_here (x ∷ edges) zero e y h = refl
set_here (x ∷ edges) (suc k) e y h = set_here edges k e y h

set_elsewhere : (edges : Monitors) (k j : ℕ) (y : Edge) → j ≢ k → edge_at (slice_set edges k (Some y)) j ≡ edge_at edges j
set_elsewhere [] k j y far = refl
set_elsewhere (x ∷ edges) zero zero y far = absurd (far refl)
set_elsewhere (x ∷ edges) zero (suc j) y far = refl
set_elsewhere (x ∷ edges) (suc k) zero y far = refl
set_elsewhere (x ∷ edges) (suc k) (suc j) y far = set_elsewhere edges k j y (λ e. far (ap suc e))

pub edge_next : (edges : Monitors) (k j : ℕ) (e y : Edge) → edge_at edges k ≡ Some e → edge_at (slice_set edges k (Some y)) j ≡ cond (j == k) (Some y) (edge_at edges j)
edge_next edges k j e y h = by (j == k) refl
  where
    by : (b : Bool) → (j == k) ≡ b → edge_at (slice_set edges k (Some y)) j ≡ cond b (Some y) (edge_at edges j)
    by true q = let same : j ≡ k = Prim.grind (arith, q) in subst (λ i. edge_at (slice_set edges k (Some y)) i ≡ Some y) (sym same) (set_here edges k e y h)
    by false q = set_elsewhere edges k j y (λ s. let no : ⊥ = Prim.grind (arith, q, s) in no)

pub sees_next : (c : Configuration) (me : Process) (edges : Monitors) (k : ℕ) (e y : Edge) → edge_at edges k ≡ Some e → Sees c me edges → Sees c me (slice_set edges k (Some y))
sees_next c me edges k e y h sees j x o = by (j == k) refl
  where
    by : (b : Bool) → (j == k) ≡ b → (z : Edge) × (edge_at (slice_set edges k (Some y)) j ≡ Some z)
    by true q = (y, edge_next edges k j e y h ∙ ap (λ b. cond b (Some y) (edge_at edges j)) q)
    by false q = let r = sees j x o in (r.0, edge_next edges k j e y h ∙ ap (λ b. cond b (Some y) (edge_at edges j)) q ∙ r.1)

-- ---- fresh windows

at_range : {A : Type 0} (f : ℕ → A) (a n k : ℕ) → k < n → slice_get (map f (range_with_len a n)) k ≡ Some (f (a + k))
at_range f a zero k h = absurd (omega arith)
at_range f a (suc n) zero h = let e : a ≡ a + 0 = omega arith in ap (λ i. Some (f i)) e
at_range f a (suc n) (suc k) h = let e : (a + 1) + k ≡ a + suc k = omega arith in at_range f (a + 1) n k (omega arith) ∙ ap (λ i. Some (f i)) e

abbrev slot : Option Process → Option Edge
slot o = option_map (λ s. fresh_edge) o

fresh_on : (f : ℕ → Option Process) (ks : List ℕ) (k : ℕ) → edge_on (map (λ i. slot (f i)) ks) k ≡ fresh_edge
fresh_on f [] k = refl
fresh_on f (i ∷ ks) zero = by (f i)
  where
    by : (o : Option Process) → unwrap_or (slot o) fresh_edge ≡ fresh_edge
    by None = refl
    by (Some s) = refl
fresh_on f (i ∷ ks) (suc k) = fresh_on f ks k

pub windows_fresh : (c : Configuration) (me : Process) (k : ℕ) → edge_on (windows_in (Some c) me) k ≡ fresh_edge
unfolding windows_in
windows_fresh c me k = fresh_on (subject_on c me) (rings (observers_of c)) k

pub windows_seen : (c : Configuration) (me : Process) → Sees c me (windows_in (Some c) me)
unfolding windows_in observers_of
windows_seen c me k x o = by (nat_lt k c.params.k) refl o
  where
    there : k < c.params.k → edge_at (map (λ i. slot (subject_on c me i)) (range_with_len 0 c.params.k)) k ≡ slot (subject_on c me k)
    there h = ap (λ z. unwrap_or z None) (at_range (λ i. slot (subject_on c me i)) 0 c.params.k k h) ∙ ap (λ i. slot (subject_on c me i)) (omega arith)

    some : (s : Option Process) → ◌≡◌ {A = Option (Configuration × Process)} (option_map (λ z. (c, z)) s) (Some x) → slot s ≡ Some fresh_edge
    some None h = cc
    some (Some s) h = refl

    by : (b : Bool) → nat_lt k c.params.k ≡ b → ◌≡◌ {A = Option (Configuration × Process)} (cond b (option_map (λ s. (c, s)) (subject_on c me k)) None) (Some x) → (e : Edge) × (edge_at (windows_in (Some c) me) k ≡ Some e)
    by true below h = let less : k < c.params.k = Prim.grind (arith, below) in (fresh_edge, there less ∙ some (subject_on c me k) h)
    by false below h = cc

-- ---- the life of each member of a world stands in its log

-- what holds of a member now
pub record MemberNow (log : List Entry) (me : Process) (edges : Monitors) (s : MemberState) : Type 0 where
  pub heard : List Message
  pub life : Lives s.config me (acts_at log me s.config) heard s None
  -- it heard all that it took
  pub sync : heard ≡ taken_in me (acts_at log me s.config)
  -- it was in no configuration above
  pub fresh : (d : Configuration) → s.config.height < d.height → acts_at log me d ≡ []
  -- its probe windows are those of the results
  pub windows : (k : ℕ) → edge_on edges k ≡ edge_after fresh_edge (filter_map (result_on k) (acts_at log me s.config))
  -- it has one on each ring on which it observes another
  pub sees : Sees s.config me edges

-- what holds of a node now
abbrev pub NodeNow : List Entry → Process → Monitors → Phase → Type 0
NodeNow log me edges (Joining j) = ((c : Configuration) → acts_at log me c ≡ []) × (edges ≡ windows_in None me)
NodeNow log me edges (Member s) = MemberNow log me edges s
NodeNow log me edges (Removed c) = Unit {0}
NodeNow log me edges (Halted shown) = Unit {0}

-- what a process did in a configuration is a member's life there, if it was in it
pub data PastLife (log : List Entry) (me : Process) (c : Configuration) : Type 0 where
  was_not : acts_at log me c ≡ [] → PastLife log me c
  was : (heard : List Message) (s : MemberState) (d : Option Cut) → Lives c me (acts_at log me c) heard s d → PastLife log me c

-- a node that joins has installed nothing
abbrev pub Bare : Node → Type 0
Bare n = (j : Joiner) → n.phase ≡ Joining j → n.installed ≡ []

pub record Lived (w : World) : Type 0 where
  pub names : (i j : ℕ) (p q : Peer) → StandsAt w i p → StandsAt w j q → identifier p.node.me ≡ identifier q.node.me → i ≡ j
  pub known : (e : Entry) → In w.log e → (i : ℕ) × (p : Peer) × (StandsAt w i p) × (p.node.me ≡ e.who)
  pub now : (i : ℕ) (p : Peer) → StandsAt w i p → NodeNow w.log p.node.me p.edges p.node.phase
  pub past : (me : Process) (c : Configuration) → PastLife w.log me c
  pub bare : (i : ℕ) (p : Peer) → StandsAt w i p → Bare p.node

-- the same acts make the same facts
pub now_same : (old new : List Entry) (me : Process) (edges : Monitors) (ph : Phase) → ((c : Configuration) → acts_at new me c ≡ acts_at old me c) → NodeNow old me edges ph → NodeNow new me edges ph
now_same old new me edges (Joining j) same h = (λ c. same c ∙ h.0 c, h.1)
now_same old new me edges (Member s) same h =
    record {
      heard = h.heard;
      life = subst (λ a. Lives s.config me a h.heard s None) (sym (same s.config)) h.life;
      sync = h.sync ∙ ap (taken_in me) (sym (same s.config));
      fresh = λ d above. same d ∙ h.fresh d above;
      windows = λ k. h.windows k ∙ ap (λ a. edge_after fresh_edge (filter_map (result_on k) a)) (sym (same s.config));
      sees = h.sees;
    }
now_same old new me edges (Removed c) same h = tt
now_same old new me edges (Halted shown) same h = tt

pub past_same : (old new : List Entry) (me : Process) (c : Configuration) → acts_at new me c ≡ acts_at old me c → PastLife old me c → PastLife new me c
past_same old new me c same (was_not h) = was_not (same ∙ h)
past_same old new me c same (was heard s d l) = was heard s d (subst (λ a. Lives c me a heard s d) (sym same) l)

of_entries : (n : Node) (xs : List Act) (e : Entry) → In (map (entry n) xs) e → n.me ≡ e.who
of_entries n [] e h = absurd h
of_entries n (a ∷ xs) e (inl same) = ap (λ (x : Entry). x.who) same
of_entries n (a ∷ xs) e (inr later) = of_entries n xs e later

-- a step at one place
module _ (w : World) (old : Lived w) (i : ℕ) (p q : Peer) (at : StandsAt w i p) (same : q.node.me ≡ p.node.me) (xs : List Act) (packets : List Packet) where
  abbrev next : World
  next = record w { peers = slice_set w.peers i q; packets = packets; log = w.log ++ map (entry p.node) xs }

  names_next : (j k : ℕ) (a b : Peer) → StandsAt next j a → StandsAt next k b → identifier a.node.me ≡ identifier b.node.me → j ≡ k
  names_next j k a b ha hb e =
      elim (get_set w.peers i j q a ha) [
        | inl r ↦ elim (get_set w.peers i k q b hb) [
          | inl t ↦ r.0 ∙ sym t.0
          | inr t ↦ r.0 ∙ old.names i k p b at t.1 (ap identifier (sym (ap (λ (x : Peer). x.node.me) r.1 ∙ same)) ∙ e)
        ]
        | inr r ↦ elim (get_set w.peers i k q b hb) [
          | inl t ↦ old.names j i a p r.1 at (e ∙ ap identifier (ap (λ (x : Peer). x.node.me) t.1 ∙ same)) ∙ sym t.0
          | inr t ↦ old.names j k a b r.1 t.1 e
        ]
      ]

  place_next : (j : ℕ) (a : Peer) → StandsAt w j a → (b : Peer) × (StandsAt next j b) × (b.node.me ≡ a.node.me)
  place_next j a h =
      elim (set_get w.peers i j q a h) [
        | inl r ↦ (a, r, refl)
        | inr r ↦ let is : p ≡ a = same_Some _ _ (sym at ∙ subst (λ k. slice_get w.peers k ≡ Some a) r.0 h) in (q, r.1, same ∙ ap (λ (x : Peer). x.node.me) is)
      ]

  known_next : (e : Entry) → In next.log e → (j : ℕ) × (b : Peer) × (StandsAt next j b) × (b.node.me ≡ e.who)
  known_next e h =
      elim (in_split w.log (map (entry p.node) xs) e h) [
        | inl before ↦ let k = old.known e before in let r = place_next k.0 k.1 k.2 in (k.0, r.0, r.1, r.2 ∙ k.3)
        | inr new ↦ let r = place_next i p at in (i, r.0, r.1, r.2 ∙ of_entries p.node xs e new)
      ]

  -- another process is not at this place
  apart : (j : ℕ) (a : Peer) → j ≢ i → StandsAt w j a → (c : Configuration) → is_here a.node.me c p.node ≡ false
  apart j a far h c = elsewhere a.node.me c p.node (λ e _. far (old.names j i a p h at (ap identifier e)))

  module _ (now : NodeNow (w.log ++ map (entry p.node) xs) q.node.me q.edges q.node.phase) (past : (c : Configuration) → member_in p.node ≡ Some c → PastLife (w.log ++ map (entry p.node) xs) p.node.me c) (bare : Bare q.node) where
    bare_next : (j : ℕ) (a : Peer) → StandsAt next j a → Bare a.node
    bare_next j a h =
        elim (get_set w.peers i j q a h) [
          | inl r ↦ subst (λ (x : Peer). Bare x.node) (sym r.1) bare
          | inr r ↦ old.bare j a r.1
        ]

    now_next : (j : ℕ) (a : Peer) → StandsAt next j a → NodeNow next.log a.node.me a.edges a.node.phase
    now_next j a h =
        elim (get_set w.peers i j q a h) [
          | inl r ↦ subst (λ (x : Peer). NodeNow next.log x.node.me x.edges x.node.phase) (sym r.1) now
          | inr r ↦ now_same w.log next.log a.node.me a.edges a.node.phase (λ c. acts_elsewhere w.log a.node.me c p.node xs (apart j a r.0 r.1 c)) (old.now j a r.1)
        ]

    past_next : (me : Process) (c : Configuration) → PastLife next.log me c
    past_next me c = by (is_here me c p.node) refl
      where
        by : (b : Bool) → is_here me c p.node ≡ b → PastLife next.log me c
        by true e = let r = here_to me c p.node e in subst (λ x. PastLife next.log x c) (sym r.0) (past c r.1)
        by false e = past_same w.log next.log me c (acts_elsewhere w.log me c p.node xs e) (old.past me c)

    pub lived_next : Lived next
    lived_next = record { names = names_next; known = known_next; now = now_next; past = past_next; bare = bare_next }

-- ---- each step of a world keeps the lives of its members

-- ---- probe results

abbrev pub results_in : ℕ → List Act → List Bool
results_in k acts = filter_map (result_on k) acts

results_did : (k : ℕ) (xs : List Effect) → results_in k (map Did xs) ≡ []
results_did k [] = refl
results_did k (x ∷ xs) = results_did k xs

results_install : (k : ℕ) (n m : Node) (o : Option Configuration) → results_in k (install_acts n m o) ≡ []
results_install k n m None = refl
results_install k n m (Some c) = cond_both (has_installed n m) (Installed c ∷ []) [] (λ l. results_in k l ≡ []) (λ e. refl) (λ e. refl)

pub results_acts : (k : ℕ) (before : List Act) (n : Node) (o : Outcome) → results_in k (acts_of before n o) ≡ results_in k before
results_acts k before n o =
    filter_map-append (result_on k) (before ++ map Did o.effects) (install_acts n o.node (configuration_of o.node))
    ∙ ap (λ l. results_in k (before ++ map Did o.effects) ++ l) (results_install k n o.node (configuration_of o.node))
    ∙ append-nil (results_in k (before ++ map Did o.effects))
    ∙ filter_map-append (result_on k) before (map Did o.effects)
    ∙ ap (λ l. results_in k before ++ l) (results_did k o.effects)
    ∙ append-nil (results_in k before)

pub edge_after-push : (e : Edge) (rs : List Bool) (ok : Bool) → edge_after e (rs ++ ok ∷ []) ≡ probed (edge_after e rs) ok
edge_after-push e [] ok = refl
edge_after-push e (r ∷ rs) ok = edge_after-push (probed e r) rs ok

-- the window of a ring after one more probe
pub window_after : (edges : Monitors) (acts : List Act) (k j : ℕ) (ok : Bool) (e : Edge) → edge_at edges k ≡ Some e → ((i : ℕ) → edge_on edges i ≡ edge_after fresh_edge (results_in i acts)) →
    edge_on (slice_set edges k (Some (probed (edge_on edges k) ok))) j ≡ edge_after fresh_edge (results_in j (acts ++ Probed k ok ∷ []))
window_after edges acts k j ok e there old =
    ap (λ o. unwrap_or o fresh_edge) (edge_next edges k j e (probed (edge_on edges k) ok) there)
    ∙ by (j == k) refl
    ∙ ap (edge_after fresh_edge) (sym (filter_map-append (result_on j) acts (Probed k ok ∷ [])))
  where
    same : (j == k) ≡ true → j ≡ k
    same e = Prim.grind arith

    by : (b : Bool) → (j == k) ≡ b → unwrap_or (cond b (Some (probed (edge_on edges k) ok)) (edge_at edges j)) fresh_edge ≡ edge_after fresh_edge (results_in j acts ++ cons_option (cond b (Some ok) None) [])
    by true e =
        ap (λ x. probed x ok) (old k ∙ ap (λ i. edge_after fresh_edge (results_in i acts)) (sym (same e)))
        ∙ sym (edge_after-push fresh_edge (results_in j acts) ok)
    by false e = old j ∙ ap (edge_after fresh_edge) (sym (append-nil (results_in j acts)))

-- ---- a member to which an event comes

-- the member as it was, and its windows with what came
pub record Met (log : List Entry) (p : Peer) (before : List Act) (s : MemberState) : Type 0 where
  pub heard : List Message
  pub life : Lives s.config p.node.me (acts_at log p.node.me s.config) heard s None
  pub sync : heard ≡ taken_in p.node.me (acts_at log p.node.me s.config)
  pub fresh : (d : Configuration) → s.config.height < d.height → acts_at log p.node.me d ≡ []
  pub windows : (k : ℕ) → edge_on p.edges k ≡ edge_after fresh_edge (results_in k (acts_at log p.node.me s.config ++ before))
  pub sees : Sees s.config p.node.me p.edges

pub no_results : (k : ℕ) (acts : List Act) (a : Act) → result_on k a ≡ None → results_in k (acts ++ a ∷ []) ≡ results_in k acts
no_results k acts a e = filter_map-append (result_on k) acts (a ∷ []) ∙ ap (λ o. results_in k acts ++ cons_option o []) e ∙ append-nil (results_in k acts)

pub now_member : (w : World) (old : Lived w) (i : ℕ) (p : Peer) (s : MemberState) → StandsAt w i p → p.node.phase ≡ Member s → MemberNow w.log p.node.me p.edges s
now_member w old i p s at e = subst (λ (x : Phase). NodeNow w.log p.node.me p.edges x) e (old.now i p at)

pub meets : (w : World) (old : Lived w) (i : ℕ) (p : Peer) (before : List Act) (e : Event) (s : MemberState) → Comes w i p before e → p.node.phase ≡ Member s → Met w.log p before s
meets w old i p _ _ s (by_tick _ at) member =
    let m = now_member w old i p s at member in
    record { heard = m.heard; life = m.life; sync = m.sync; fresh = m.fresh; windows = λ k. m.windows k ∙ ap (edge_after fresh_edge) (sym (no_results k (acts_at w.log p.node.me s.config) Ticked refl)); sees = m.sees }
meets w old i p _ _ s (by_packet _ x at sent to) member =
    let m = now_member w old i p s at member in
    record { heard = m.heard; life = m.life; sync = m.sync; fresh = m.fresh; windows = λ k. m.windows k ∙ ap (edge_after fresh_edge) (sym (no_results k (acts_at w.log p.node.me s.config) (Took x.message) refl)); sees = m.sees }
meets w old i _ _ _ s (by_probe p c k q ok at ob down) member =
    let m = now_member w old i p s at member in
    let there = m.sees k (c, q) (subst (λ (x : Phase). observed_in (member_config x) p.node.me k ≡ Some (c, q)) member ob) in
    record {
      heard = m.heard;
      life = m.life;
      sync = m.sync;
      fresh = m.fresh;
      windows = λ j. window_after p.edges (acts_at w.log p.node.me s.config) k j ok there.0 there.1 m.windows;
      sees = sees_next s.config p.node.me p.edges k there.0 (probed (edge_on p.edges k) ok) there.1 m.sees;
    }
meets w old i p _ _ s (by_wish _ at) member =
    let m = now_member w old i p s at member in
    record { heard = m.heard; life = m.life; sync = m.sync; fresh = m.fresh; windows = λ k. m.windows k ∙ ap (λ acts. edge_after fresh_edge (results_in k acts)) (sym (append-nil (acts_at w.log p.node.me s.config))); sees = m.sees }

-- what the step makes of the member
pub comes_steps : (w : World) (old : Lived w) (i : ℕ) (p : Peer) (before : List Act) (e : Event) (s : MemberState) (o : Outcome) → Comes w i p before e → p.node.phase ≡ Member s → node_step p.node e ≡ Some o →
    Stepped s.config (acts_at w.log p.node.me s.config) p.node (acts_of before p.node o) o.node
comes_steps w old i p _ _ s o (by_tick _ at) member h =
    let m = now_member w old i p s at member in
    ticks_step s.config p.node (acts_at w.log p.node.me s.config) m.heard s m.life m.sync member o h
comes_steps w old i p _ _ s o (by_packet _ x at sent to) member h =
    let m = now_member w old i p s at member in
    receive_step s.config p.node (acts_at w.log p.node.me s.config) m.heard s m.life m.sync member x.message o h
comes_steps w old i p _ _ s o (by_wish _ at) member h =
    let m = now_member w old i p s at member in
    leave_step s.config p.node (acts_at w.log p.node.me s.config) m.heard s m.life m.sync member o h
comes_steps w old i _ _ _ s o (by_probe p c k q ok at ob down) member h =
    let m = now_member w old i p s at member in
    let acts = acts_at w.log p.node.me s.config in
    let is : probed (edge_on p.edges k) ok ≡ edge_after fresh_edge (results_in k (acts ++ Probed k ok ∷ [])) =
    ap (λ x. probed x ok) (m.windows k) ∙ sym (edge_after-push fresh_edge (results_in k acts) ok) ∙ ap (edge_after fresh_edge) (here k ok acts) in
    let stretch : HasDownStretch (results_in k (acts ++ Probed k ok ∷ [])) =
    (down_is_stretch (results_in k (acts ++ Probed k ok ∷ []))).0 (subst (λ (x : Edge). IsTrue x.is_down) is down) in
    probe_step s.config p.node acts m.heard s m.life m.sync member (configuration_id c) k q k ok o stretch h
  where
    here : (k : ℕ) (ok : Bool) (acts : List Act) → results_in k acts ++ ok ∷ [] ≡ results_in k (acts ++ Probed k ok ∷ [])
    here k ok acts = by (k == k) refl ∙ sym (filter_map-append (result_on k) acts (Probed k ok ∷ []))
      where
        itself : (k == k) ≡ true
        itself = Prim.grind arith

        by : (b : Bool) → (k == k) ≡ b → results_in k acts ++ ok ∷ [] ≡ results_in k acts ++ cons_option (cond b (Some ok) None) []
        by true e = refl
        by false e = let wrong : true ≡ false = sym itself ∙ e in cc

-- if the node halts, what came was all
abbrev pub HaltsAt : Configuration → Process → List Act → Type 0
HaltsAt c me acts = (heard : List Message) × (t : MemberState) × Lives c me acts heard t None

halts_after : (c : Configuration) (me : Process) (acts : List Act) (heard : List Message) (a : Act) (t : MemberState) → Lives c me (acts ++ a ∷ []) heard t None → HaltsAt c me (acts ++ (a ∷ HasHalted ∷ []))
halts_after c me acts heard a t l =
    (heard, t, subst (λ x. Lives c me x heard t None) (append_assoc acts (a ∷ []) (HasHalted ∷ [])) (does (acts ++ a ∷ []) heard t (Some HasHalted) None t None l (marks HasHalted tt)))

pub halts_life : (w : World) (old : Lived w) (i : ℕ) (p : Peer) (before : List Act) (e : Event) (s : MemberState) → Comes w i p before e → p.node.phase ≡ Member s →
    HaltsAt s.config p.node.me (acts_at w.log p.node.me s.config ++ (before ++ HasHalted ∷ []))
halts_life w old i p _ _ s (by_tick _ at) member =
    let m = now_member w old i p s at member in
    let acts = acts_at w.log p.node.me s.config in
    halts_after s.config p.node.me acts m.heard Ticked _ (does acts m.heard s (Some Ticked) None _ None m.life (ticks (m.sync ∙ ap (λ q. taken_in q acts) (sym (lives_me s.config p.node.me acts m.heard s None m.life)))))
halts_life w old i p _ _ s (by_packet _ x at sent to) member =
    let m = now_member w old i p s at member in
    let acts = acts_at w.log p.node.me s.config in
    halts_after s.config p.node.me acts m.heard (Took x.message) s (does acts m.heard s (Some (Took x.message)) None s None m.life (marks (Took x.message) tt))
halts_life w old i _ _ _ s (by_probe p c k q ok at ob down) member =
    let m = now_member w old i p s at member in
    let acts = acts_at w.log p.node.me s.config in
    halts_after s.config p.node.me acts m.heard (Probed k ok) s (does acts m.heard s (Some (Probed k ok)) None s None m.life (marks (Probed k ok) tt))
halts_life w old i p _ _ s (by_wish _ at) member =
    let m = now_member w old i p s at member in
    (m.heard, s, does (acts_at w.log p.node.me s.config) m.heard s (Some HasHalted) None s None m.life (marks HasHalted tt))
