-- Every run agrees: one line of configurations, each change chosen and supported.
use Rattle.std.proofs.Common.{◌≡◌, ◌⊎◌, inl, inr, Bool, true, false, cond, List, [], ◌∷◌, ◌++◌, refl, sym, ap, ap₂, subst, ◌∙◌, Some, append_assoc, append-nil, ◌≤◌, arith}
use Rattle.rapid_safety.proofs.Basics.{Contains, slice_get-get_or, In, in_left, in_from, contains_from, in_right}
use Rattle.rapid_safety.proofs.Values.{Process, Cut, Configuration, AreMembers, configuration_id, is_member, AreParams, founding, apply, Decision}
use Rattle.rapid_safety.proofs.Working.{Node, Phase, Joining, Member, Removed, MemberState, member_config, fresh_member}
use Rattle.rapid_safety.proofs.Worlds.{World, Peer, Entry, MarkedEvent, acts_of, run, founded, received, Received, sent, installs, Chosen, said_about, line_from, EachChange, IsStretchOf, NoCollision, IsLine, Line, SameNext, IsSupported, IsAgreed, Agreement, IsNext, DecisionsChosen}
use Rattle.rapid_agreement.proofs.Safety.{chosen_proposed}
use Rattle.rapid_safety.specs.Evidence.{Evidence}
use Rattle.rapid_safety.proofs.Atoms.{message}
use Rattle.rapid_safety.proofs.Histories.{acts_at, acts_here, here_from}
use Rattle.rapid_safety.proofs.Lived.{apply_height, lived_run}
use Rattle.rapid_safety.proofs.News.{TookSaid, took_kept, none_took, known_said, Moves, sent_said}
use Rattle.rapid_safety.proofs.Speaking.{Asides, asides_kept, none_said_yet}
use Rattle.rapid_safety.proofs.Steps.{Steps, run_keeps, log_grows, founding_of_run}
use Rattle.rapid_safety.proofs.Nodes.{WasInstalled, was_installed, installed_grows, move_present, installs_in, of_installs, get_in, acts_then, MoveKind, member_goes_on, member_installs, joiner_goes_on, joiner_enters, stays_out, gains, OfNodes, of_nodes_kept, of_nodes_founded}
use Rattle.rapid_safety.proofs.Told.{Confirmed, Told, said_next, told_kept, told_founded, Histories, histories_kept, histories_founded, histories_run, decisions_name_installed}
use Rattle.rapid_safety.proofs.Descent.{reached, changes_more, changes_push, reached_push, Descends, Descent, Lasts, Decides, descent_kept, descent_founded, descends_more}
use Rattle.rapid_safety.proofs.Rules.{sent_grows, one_cut_is_chosen, installed_keeps_rules, installed_votes_own}
use Rattle.rapid_safety.proofs.Deciding.{lives_evidence}
use Rattle.rapid_safety.proofs.Grounds.{evidence_chosen}
use Rattle.rapid_safety.proofs.Supporting.{proposals_are_supported}

-- ---- a change of the line

-- the configuration was installed, and the cut is chosen in it
abbrev pub IsChange : World → Configuration → Cut → Type 0
IsChange w c u = WasInstalled w.log c × Chosen w c u

abbrev pub WasChange : World → Process → Configuration → Cut → Type 0
WasChange w p c u = IsChange w c u

change_lasts : (w v : World) → Steps w v → Lasts IsChange w v
change_lasts w v s c u h =
    let g = log_grows w v s in
    let there = h.0 in
    let chosen = h.1.1 in
    let more = sent_grows w v s in (
      (there.0, subst (λ l. In l there.0) (sym g.1) (in_left w.log g.0 there.0 there.1), there.2),
      (
        h.1.0,
        record {
          quorum = chosen.quorum;
          enough = chosen.enough;
          votes = λ a m i. elim (chosen.votes a m i) [ inl x ↦ inl (x.0, more a _ x.1) | inr x ↦ inr (x.0, more a _ x.1) ];
        },
      ),
    )

-- ---- lines

line_push : (c : Configuration) (us : List Cut) (u : Cut) → line_from c (us ++ u ∷ []) ≡ line_from c us ++ apply (reached c us) u ∷ []
line_push c [] u = refl
line_push c (v ∷ vs) u = ap (λ l. c ∷ l) (line_push (apply c v) vs u)

pub line_last : (c : Configuration) (us : List Cut) → (before : List Configuration) × (line_from c us ≡ before ++ reached c us ∷ [])
line_last c [] = ([], refl)
line_last c (u ∷ us) = let r = line_last (apply c u) us in (c ∷ r.0, ap (λ l. c ∷ l) r.1)

pub line_more : (c : Configuration) (us more : List Cut) → (rest : List Configuration) × (line_from c (us ++ more) ≡ line_from c us ++ rest)
line_more c [] [] = ([], refl)
line_more c [] (v ∷ vs) = (line_from (apply c v) vs, refl)
line_more c (u ∷ us) more = let r = line_more (apply c u) us more in (r.0, ap (λ l. c ∷ l) r.1)

-- ---- what each node installed

-- these end the line that such changes make
pub record Behind (f : Configuration) (w : World) (xs : List Configuration) : Type 0 where
  pub cuts : List Cut
  pub changes : EachChange (IsChange w) f cuts
  pub before : List Configuration
  pub is : line_from f cuts ≡ before ++ xs

-- and the last is this configuration
pub record BehindAt (f : Configuration) (w : World) (xs : List Configuration) (c : Configuration) : Type 0 where
  pub behind : Behind f w xs
  pub at : reached f behind.cuts ≡ c

abbrev pub Follows : Configuration → World → List Configuration → Phase → Type 0
Follows f w xs (Joining j) = xs ≡ []
Follows f w xs (Member s) = BehindAt f w xs s.config
Follows f w xs ph = Behind f w xs

-- nothing ends each line
behind_none : (f : Configuration) (w : World) (xs : List Configuration) → xs ≡ [] → Behind f w xs
behind_none f w xs e = record { cuts = []; changes = tt; before = f ∷ []; is = sym (append-nil (f ∷ [])) ∙ ap (λ l. f ∷ l) (sym e) }

follows_behind : (f : Configuration) (w : World) (xs : List Configuration) (ph : Phase) → Follows f w xs ph → Behind f w xs
follows_behind f w xs (Joining j) h = behind_none f w xs h
follows_behind f w xs (Member s) h = h.behind
follows_behind f w xs ph h = h

behind_more : (f : Configuration) (w v : World) → Lasts IsChange w v → (xs : List Configuration) → Behind f w xs → Behind f v xs
behind_more f w v g xs h = record { cuts = h.cuts; changes = changes_more (IsChange w) (IsChange v) g f h.cuts h.changes; before = h.before; is = h.is }

behind_at_more : (f : Configuration) (w v : World) → Lasts IsChange w v → (xs : List Configuration) (c : Configuration) → BehindAt f w xs c → BehindAt f v xs c
unfolding behind_more
behind_at_more f w v g xs c h = record { behind = behind_more f w v g xs h.behind; at = h.at }

follows_more : (f : Configuration) (w v : World) → Lasts IsChange w v → (xs : List Configuration) (ph : Phase) → Follows f w xs ph → Follows f v xs ph
follows_more f w v g xs (Joining j) h = h
follows_more f w v g xs (Member s) h = behind_at_more f w v g xs s.config h
follows_more f w v g xs ph h = behind_more f w v g xs h

-- one configuration further
behind_push : (f : Configuration) (v : World) (xs : List Configuration) (c : Configuration) (u : Cut) → BehindAt f v xs c → IsChange v c u → BehindAt f v (xs ++ apply c u ∷ []) (apply c u)
behind_push f v xs c u h k =
    let b = h.behind in
    let next : apply (reached f b.cuts) u ≡ apply c u = ap (λ x. apply x u) h.at in
    record {
      behind = record {
        cuts = b.cuts ++ u ∷ [];
        changes = changes_push (IsChange v) f b.cuts u b.changes (subst (λ x. IsChange v x u) (sym h.at) k);
        before = b.before;
        is = line_push f b.cuts u ∙ ap (λ l. l ++ apply (reached f b.cuts) u ∷ []) b.is ∙ append_assoc b.before xs (apply (reached f b.cuts) u ∷ []) ∙ ap (λ x. b.before ++ (xs ++ x ∷ [])) next;
      };
      at = reached_push f b.cuts u ∙ next;
    }

-- who enters a configuration that was installed
behind_enter : (f : Configuration) (v : World) (c : Configuration) → Descends IsChange f v c → BehindAt f v (c ∷ []) c
behind_enter f v c h = let l = line_last f h.0 in record { behind = record { cuts = h.0; changes = h.1; before = l.0; is = l.1 ∙ ap (λ x. l.0 ++ x ∷ []) h.2 }; at = h.2 }

-- ---- what holds of every run

pub record Heard (w : World) : Type 0 where
  pub histories : Histories w
  pub took : TookSaid w
  pub asides : Asides w

heard_kept : (w v : World) → Steps w v → Heard w → Heard v
heard_kept w v s k = record { histories = histories_kept w v s k.histories; took = took_kept w v s k.histories.said k.took; asides = asides_kept w v s k.asides }

heard_founded : (c : Configuration) → AreMembers c.members → Heard (founded c)
heard_founded c are = record { histories = histories_founded c are; took = none_took c; asides = none_said_yet c }

-- the configurations that were installed, the cuts that were told and what the nodes installed are of one line
pub record Lined (f : Configuration) (w : World) : Type 0 where
  pub told : Told WasChange w
  pub descent : Descent IsChange f w
  pub nodes : OfNodes (λ w n xs. Follows f w xs n.phase) w

module _ (f : Configuration) (w v : World) (s : Steps w v) (old : Heard w) (new : Heard v) (apart : NoCollision v) (k : Lined f w) where
  lasts : Lasts IsChange w v
  lasts = change_lasts w v s

  -- a configuration with the identifier of one that was installed is that
  same_config : (c d : Configuration) → WasInstalled v.log c → WasInstalled v.log d → configuration_id c ≡ configuration_id d → c ≡ d
  same_config c d x y e = apart x.0 y.0 c d (contains_from v.log x.0 x.1) (contains_from v.log y.0 y.1) x.2 y.2 e

  installed_here : (m : Moves w v) (t : MemberState) → m.peer.node.phase ≡ Member t → WasInstalled v.log t.config
  installed_here m t at = was_installed v.log m.peer.node.me t.config (installed_grows w v s m.peer.node.me t.config (move_present w v m t.config old.histories.present (ap member_config at)))

  acts_now : (m : Moves w v) (t : MemberState) → m.peer.node.phase ≡ Member t → acts_then w v m t.config ≡ acts_at v.log m.peer.node.me t.config
  acts_now m t at =
      sym (acts_here w.log m.peer.node.me t.config m.peer.node (acts_of m.before m.peer.node m.outcome) (here_from t.config m.peer.node (ap member_config at)))
      ∙ ap (λ (x : World). acts_at x.log m.peer.node.me t.config) (sym m.is)

  -- a cut that is decided is chosen
  decides : Decides IsChange w v
  decides m t heard x u at life = (here, by (evidence_chosen v new.histories.lived new.took new.asides m.peer.node.me t.config u found))
    where
      here : WasInstalled v.log t.config
      here = installed_here m t at

      found : Evidence t.config m.peer.node.me (acts_at v.log m.peer.node.me t.config) u
      found = subst (λ a. Evidence t.config m.peer.node.me a u) (acts_now m t at) (lives_evidence t.config m.peer.node.me (acts_then w v m t.config) heard x u life)

      by : Chosen v t.config u ⊎ ((p : Process) × Received v m.peer.node.me t.config p (Decision (configuration_id t.config) u)) → Chosen v t.config u
      by (inl c) = c
      by (inr r) =
          let b = Decision (configuration_id t.config) u in
          let said = known_said v new.took m.peer.node.me r.0 t.config b (in_from (received v m.peer.node.me t.config) (message r.0 b) r.1) in
          let told = said_next WasChange w v s (λ p c y h. lasts c y h) k.told said.0 said.1 (configuration_id t.config) u said.2 said.4 in
          subst (λ c. Chosen v c u) (same_config told.0 t.config told.2.0 here told.1) told.2.1

  descent_next : Descent IsChange f v
  descent_next = descent_kept IsChange f w v s old.histories lasts decides k.descent

  moved_follows : (m : Moves w v) (n : Node) (k : MoveKind w v m n) (xs : List Configuration) → Follows f w xs m.peer.node.phase → Follows f v (xs ++ gains w v m n k) n.phase
  unfolding fresh_member Confirmed
  moved_follows m _ (member_goes_on t x at same) xs h =
      subst (λ l. BehindAt f v l x.config) (sym (append-nil xs)) (subst (BehindAt f v xs) (sym same) (behind_at_more f w v lasts xs t.config (subst (Follows f w xs) at h)))
  moved_follows m _ (member_installs t heard x u at life) xs h = by (is_member (apply t.config u) m.peer.node.me)
    where
      now : BehindAt f v (xs ++ apply t.config u ∷ []) (apply t.config u)
      now = behind_push f v xs t.config u (behind_at_more f w v lasts xs t.config (subst (Follows f w xs) at h)) (decides m t heard x u at life)

      by : (b : Bool) → Follows f v (xs ++ apply t.config u ∷ []) (cond b (Member (fresh_member (apply t.config u) m.peer.node.me)) (Removed (apply t.config u)))
      by true = now
      by false = now.behind
  moved_follows m _ (joiner_goes_on j i at) xs h = append-nil xs ∙ subst (Follows f w xs) at h
  moved_follows m _ (joiner_enters j from c at said member) xs h =
      let there = old.histories.confirmed said.0 said.1 c said.2 said.4 in
      let none : xs ≡ [] = subst (Follows f w xs) at h in
      subst (λ l. BehindAt f v (l ++ c ∷ []) c) (sym none) (behind_enter f v c (descends_more IsChange f w v lasts c (k.descent there.0 c there.1 there.3)))
  moved_follows m _ (stays_out none) xs h = subst (λ l. Follows f v l m.peer.node.phase) (sym (append-nil xs)) (follows_more f w v lasts xs m.peer.node.phase h)

  lined_next : Lined f v
  lined_next =
      record {
        told = told_kept WasChange w v s old.histories.lived old.histories.said (λ p c u h. lasts c u h) (λ m t heard x u at life is. decides m t heard x u at life) k.told;
        descent = descent_next;
        nodes = of_nodes_kept (λ w n xs. Follows f w xs n.phase) w v s old.histories.lived old.histories.said
            (record {
              lasts = λ n xs h. follows_more f w v lasts xs n.phase h;
              halts = λ n xs h. behind_more f w v lasts xs (follows_behind f w xs n.phase h);
              starts = λ me seed. refl;
              moves = λ m n k xs h. moved_follows m n k xs h;
            })
            k.nodes;
      }

lined_founded : (c : Configuration) → AreMembers c.members → Lined c (founded c)
unfolding fresh_member
lined_founded c are =
    record {
      told = told_founded WasChange c;
      descent = descent_founded IsChange c;
      nodes = of_nodes_founded (λ w n xs. Follows c w xs n.phase) c are (λ me. record { behind = record { cuts = []; changes = tt; before = []; is = refl }; at = refl });
    }

-- that no identifiers collide holds before each step, too
before_apart : (w v : World) → Steps w v → NoCollision v → NoCollision w
before_apart w v s apart e g c d he hg =
    let l = log_grows w v s in
    let there : (x : Entry) → Contains w.log x → Contains v.log x = λ x h. contains_from v.log x (subst (λ z. In z x) (sym l.1) (in_left w.log l.0 x (in_from w.log x h))) in
    apart e g c d (there e he) (there g hg)

pub lined_run : (f : Configuration) (es : List MarkedEvent) → AreMembers f.members → NoCollision (run es (founded f)) → Lined f (run es (founded f))
lined_run f es are =
    (run_keeps (λ w. Heard w × (NoCollision w → Lined f w))
    (λ w v s h. let now = heard_kept w v s h.0 in (now, λ apart. lined_next f w v s h.0 now apart (h.1 (before_apart w v s apart)))) es (founded f)
    (heard_founded f are, λ apart. lined_founded f are)).1

-- ---- of two lines one begins the other

abbrev pub Begins : List Cut → List Cut → Type 0
Begins us vs = (more : List Cut) × (vs ≡ us ++ more)

abbrev pub OneCut : World → Type 0
OneCut w = (c : Configuration) (u v : Cut) → IsChange w c u → IsChange w c v → u ≡ v

pub one_line : (w : World) → OneCut w → (c : Configuration) (us vs : List Cut) → EachChange (IsChange w) c us → EachChange (IsChange w) c vs → Begins us vs ⊎ Begins vs us
one_line w one c [] vs h g = inl (vs, refl)
one_line w one c (u ∷ us) [] h g = inr (u ∷ us, refl)
one_line w one c (u ∷ us) (v ∷ vs) h g =
    let same : u ≡ v = one c u v h.0 g.0 in
    elim (one_line w one (apply c u) us vs h.1 (subst (λ x. EachChange (IsChange w) (apply c x) vs) (sym same) g.1)) [
      | inl r ↦ inl (r.0, ap₂ (λ x xs. x ∷ xs) (sym same) r.1)
      | inr r ↦ inr (r.0, ap₂ (λ x xs. x ∷ xs) same r.1)
    ]

stretch_more : (f : Configuration) (us vs : List Cut) (xs : List Configuration) → Begins us vs → IsStretchOf xs (line_from f us) → IsStretchOf xs (line_from f vs)
stretch_more f us vs xs b h =
    let l = line_more f us b.0 in (
      h.0,
      h.1 ++ l.0,
      ap (line_from f) b.1 ∙ l.1 ∙ ap (λ ys. ys ++ l.0) h.2 ∙ append_assoc h.0 (xs ++ h.1) l.0 ∙ ap (λ ys. h.0 ++ ys) (append_assoc xs h.1 l.0),
    )

-- the longest line of some nodes
pub record Longest (f : Configuration) (w : World) (ps : List Peer) : Type 0 where
  pub cuts : List Cut
  pub changes : EachChange (IsChange w) f cuts
  pub stretches : (p : Peer) → In ps p → IsStretchOf (installs_in w.log p.node.me) (line_from f cuts)

longest : (f : Configuration) (w : World) → OneCut w → (ps : List Peer) → ((p : Peer) → In ps p → Behind f w (installs_in w.log p.node.me)) → Longest f w ps
longest f w one [] h = record { cuts = []; changes = tt; stretches = λ p i. absurd i }
longest f w one (p ∷ ps) h = by (longest f w one ps (λ q i. h q (inr i))) (h p (inl refl))
  where
    own : (b : Behind f w (installs_in w.log p.node.me)) → IsStretchOf (installs_in w.log p.node.me) (line_from f b.cuts)
    own b = (b.before, [], b.is ∙ ap (λ l. b.before ++ l) (sym (append-nil (installs_in w.log p.node.me))))

    either : (cuts : List Cut) → IsStretchOf (installs_in w.log p.node.me) (line_from f cuts) → ((q : Peer) → In ps q → IsStretchOf (installs_in w.log q.node.me) (line_from f cuts)) →
        (q : Peer) → In (p ∷ ps) q → IsStretchOf (installs_in w.log q.node.me) (line_from f cuts)
    either cuts here later q (inl e) = subst (λ (x : Peer). IsStretchOf (installs_in w.log x.node.me) (line_from f cuts)) e here
    either cuts here later q (inr i) = later q i

    by : Longest f w ps → Behind f w (installs_in w.log p.node.me) → Longest f w (p ∷ ps)
    by l b =
        elim (one_line w one f b.cuts l.cuts b.changes l.changes) [
          | inl r ↦ record { cuts = l.cuts; changes = l.changes; stretches = either l.cuts (stretch_more f b.cuts l.cuts (installs_in w.log p.node.me) r (own b)) l.stretches }
          | inr r ↦ record { cuts = b.cuts; changes = b.changes; stretches = either b.cuts (own b) (λ q i. stretch_more f l.cuts b.cuts (installs_in w.log q.node.me) r (l.stretches q i)) }
        ]

-- ---- the line of a run

pub one_cut : (f : Configuration) (es : List MarkedEvent) → AreMembers f.members → NoCollision (run es (founded f)) → OneCut (run es (founded f))
one_cut f es are apart c u v h g =
    let w = run es (founded f) in
    let x = h.0 in
    one_cut_is_chosen f es are apart c u v (x.0.who, (x.0, contains_from w.log x.0 x.1, refl, x.2)) h.1 g.1

-- the line, of whose changes each is of a configuration that was installed
pub line_of_run : (f : Configuration) (es : List MarkedEvent) → AreMembers f.members → NoCollision (run es (founded f)) → Longest f (run es (founded f)) (run es (founded f)).peers
line_of_run f es are apart =
    let w = run es (founded f) in
    longest f w (one_cut f es are apart) w.peers
    (λ p i. let c = contains_from w.peers p i in
    follows_behind f w (installs_in w.log p.node.me) p.node.phase ((lined_run f es are apart).nodes c.0 p (slice_get-get_or w.peers c.0 p c.1 ∙ ap Some c.2)))

-- ---- of configurations on a line each has a height of its own

above : (f : Configuration) (cuts : List Cut) (c : Configuration) → In (line_from f cuts) c → f.height ≤ c.height
above f [] c (inl e) = subst (λ (x : Configuration). f.height ≤ x.height) e (omega arith)
above f [] c (inr n) = absurd n
above f (v ∷ vs) c (inl e) = subst (λ (x : Configuration). f.height ≤ x.height) e (omega arith)
above f (v ∷ vs) c (inr i) = omega (arith, (apply_height f v), (above (apply f v) vs c i))

-- none later has the height of the first
apart_from : (f : Configuration) (v : Cut) (vs : List Cut) (c : Configuration) → In (line_from (apply f v) vs) c → f.height ≡ c.height → ⊥
apart_from f v vs c i e = omega (arith, (apply_height f v), (above (apply f v) vs c i), e)

heads : {x y : Configuration} {zs rs : List Configuration} → x ∷ zs ≡ y ∷ rs → x ≡ y
heads e = cc

tails : {x y : Configuration} {zs rs : List Configuration} → x ∷ zs ≡ y ∷ rs → zs ≡ rs
tails e = cc

-- on a line each configuration has one next
one_next : (f : Configuration) (cuts : List Cut) (c d e : Configuration) (xs ys us vs : List Configuration) → line_from f cuts ≡ xs ++ c ∷ d ∷ ys → line_from f cuts ≡ us ++ c ∷ e ∷ vs → d ≡ e
one_next f [] c d e xs ys us vs h g = absurd (short xs h)
  where
    short : (zs : List Configuration) → f ∷ [] ≡ zs ++ c ∷ d ∷ ys → ⊥
    short [] e = cc
    short (z ∷ []) e = cc
    short (z ∷ y ∷ zs) e = cc
one_next f (v ∷ vs) c d e [] ys [] ws h g = second (sym h ∙ g)
  where
    second : {x y : Configuration} {zs rs : List Configuration} → c ∷ x ∷ zs ≡ c ∷ y ∷ rs → x ≡ y
    second e = cc
one_next f (v ∷ vs) c d e [] ys (u ∷ us) ws h g = absurd (apart_from f v vs c (subst (λ l. In l c) (sym (tails g)) (in_right us (c ∷ e ∷ ws) c (inl refl))) (ap (λ (z : Configuration). z.height) (heads h)))
one_next f (v ∷ vs) c d e (x ∷ xs) ys [] ws h g = absurd (apart_from f v vs c (subst (λ l. In l c) (sym (tails h)) (in_right xs (c ∷ d ∷ ys) c (inl refl))) (ap (λ (z : Configuration). z.height) (heads g)))
one_next f (v ∷ vs) c d e (x ∷ xs) ys (u ∷ us) ws h g = one_next (apply f v) vs c d e xs ys us ws (tails h) (tails g)

-- ---- what each process installed

module _ (f : Configuration) (es : List MarkedEvent) (are : AreMembers f.members) (l : Longest f (run es (founded f)) (run es (founded f)).peers) where
  -- who installed something is a node
  all_stretch : (p : Process) → IsStretchOf (installs_in (run es (founded f)).log p) (line_from f l.cuts)
  all_stretch p = by (installs_in (run es (founded f)).log p) refl
    where
      by : (xs : List Configuration) → installs_in (run es (founded f)).log p ≡ xs → IsStretchOf (installs_in (run es (founded f)).log p) (line_from f l.cuts)
      by [] none = ([], line_from f l.cuts, ap (λ ys. ys ++ line_from f l.cuts) (sym none))
      by (c ∷ xs) some =
          let r = of_installs (run es (founded f)).log p c (subst (λ ys. In ys c) (sym some) (inl refl)) in
          let k = (lived_run f es are).known r.0 r.1 in
          subst (λ q. IsStretchOf (installs_in (run es (founded f)).log q) (line_from f l.cuts)) (k.3 ∙ r.2) (l.stretches k.1 (get_in (run es (founded f)).peers k.0 k.1 k.2))

  -- it is a line as the definition has it
  pub line_is : IsLine (run es (founded f)) l.cuts
  line_is =
      let w = run es (founded f) in
      let cuts = l.cuts in
      record {
        chosen = subst (λ c. EachChange (Chosen w) c cuts) (sym (founding_of_run f es)) (changes_more (IsChange w) (Chosen w) (λ c u h. h.1) f cuts l.changes);
        consecutive = λ p. subst (λ c. IsStretchOf (installs w p) (line_from c cuts)) (sym (founding_of_run f es)) (all_stretch p);
        shown = λ p there. let at = contains_from w.peers p (in_from w.peers p there) in ((histories_run f es are).shown at.0 p (slice_get-get_or w.peers at.0 p at.1 ∙ ap Some at.2)).stamps;
      }

  -- ---- the same next

  -- what is next in a stretch is next on the line
  next_on : (p : Process) (c d : Configuration) → IsNext (installs (run es (founded f)) p) c d → IsNext (line_from f l.cuts) c d
  next_on p c d h =
      let s = all_stretch p in
      (s.0 ++ h.0, h.1 ++ s.1, s.2 ∙ ap (λ xs. s.0 ++ (xs ++ s.1)) h.2 ∙ ap (λ xs. s.0 ++ xs) (append_assoc h.0 (c ∷ d ∷ h.1) s.1) ∙ sym (append_assoc s.0 h.0 (c ∷ d ∷ (h.1 ++ s.1))))

  pub same_next : SameNext (run es (founded f))
  same_next p q c d e h g =
      let x = next_on p c d h in
      let y = next_on q c e g in
      one_next f l.cuts c d e x.0 x.1 y.0 y.1 x.2 y.2

pub installs_form_one_line : (f : Configuration) (es : List MarkedEvent) → AreMembers f.members → NoCollision (run es (founded f)) → Line (run es (founded f))
installs_form_one_line f es are apart = let l = line_of_run f es are apart in (l.cuts, line_is f es are l)

-- ---- what is told is chosen

pub decisions_are_chosen : (f : Configuration) (es : List MarkedEvent) → AreMembers f.members → NoCollision (run es (founded f)) → DecisionsChosen (run es (founded f))
decisions_are_chosen f es are apart p id v h =
    let w = run es (founded f) in
    let s = sent_said w.log p (Decision id v) (in_from (sent w) (message p (Decision id v)) h) in
    let left = decisions_name_installed f es are p id v h in
    let c = left.0 in
    let chosen = (lined_run f es are apart).told.said s.0 s.1 id v s.2 s.4 in
    let was = chosen.2.0 in
    let next = left.2 in
    let here : In (installs_in w.log p) c = subst (λ l. In l c) (sym next.2) (in_right next.0 (c ∷ apply c v ∷ next.1) c (inl refl)) in
    let there = of_installs w.log p c here in
    let same : chosen.0 ≡ c = apart was.0 there.0 chosen.0 c (contains_from w.log was.0 was.1) (contains_from w.log there.0 there.1) was.2 there.3 (chosen.1 ∙ sym left.1) in
    (c, left.1, next, subst (λ x. Chosen w x v) same chosen.2.1)

-- ---- every run agrees: one line of configurations, each change chosen and supported

-- a cut that is chosen in a configuration that was installed was proposed there, and is supported
chosen_supported : (f : Configuration) (es : List MarkedEvent) → AreParams f.params → AreMembers f.members → NoCollision (run es (founded f)) → (c : Configuration) (v : Cut) → IsChange (run es (founded f)) c v → IsSupported (run es (founded f)) c v
chosen_supported f es params are apart c v h =
    let w = run es (founded f) in
    let p = chosen_proposed c.members (said_about w c) (installed_keeps_rules f es are apart c h.0) (installed_votes_own f es are apart c h.0) h.1.0 v h.1.1 in
    (proposals_are_supported f es params are apart p.0 c v p.2).0

pub run_agrees : (f : Configuration) (es : List MarkedEvent) → AreParams f.params → AreMembers f.members → NoCollision (run es (founded f)) → IsAgreed (run es (founded f))
run_agrees f es ok are apart =
    let w = run es (founded f) in
    let l = line_of_run f es are apart in
    record {
      cuts = l.cuts;
      line = line_is f es are l;
      supported = subst (λ c. EachChange (IsSupported w) c l.cuts) (sym (founding_of_run f es)) (changes_more (IsChange w) (IsSupported w) (chosen_supported f es ok are apart) f l.cuts l.changes);
      same_next = same_next f es are l;
    }

pub runs_agree : Agreement
runs_agree params founders es ok are apart = run_agrees (founding params founders) es ok are apart
