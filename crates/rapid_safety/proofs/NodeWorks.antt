-- What each event makes of a member.
use Rattle.std.proofs.Common.{◌≡◌, ◌+◌, ℕ, Bool, true, false, cond, List, [], ◌∷◌, ◌++◌, map, refl, sym, ap, subst, ◌∙◌, Option, Some, None, append_assoc, length, arith, append-nil, inl}
use Rattle.rapid_safety.proofs.Basics.{flat_map, nat_lt, filter_map, filter_map-append, map-append, cond_both, In, in_right, in_filter}
use Rattle.rapid_safety.proofs.Values.{Process, Cut, Configuration, configuration_id, stamp, is_member, apply, Message, Alert, Remove, observers_of, rings}
use Rattle.rapid_safety.proofs.Parts.{HostAnswer, Nothing, Replies, Confirms, Raises, confirms, HasDownStretch}
use Rattle.rapid_safety.proofs.Working.{Node, Member, Removed, MemberState, Effect, Outcome, shown_in, configuration_of, fresh_member, Phase, EdgeDown, Tick, Receive, Leave, Work, sends, leave_to, farewells, still, raise_alert, answer_to, receive_as_member, last_64, phase_in, is_history_full, install, stays_member, put_before, settle_at, settle, node_step, step_tick, step_receive, step_edge_down, step_leave, on_tick}
use Rattle.rapid_safety.proofs.Worlds.{Act, Did, Installed, Took, Ticked, Probed, install_acts, acts_of, taken_by, result_on}
use Rattle.rapid_safety.proofs.Atoms.{taken_in, IsMark, Lives, leaves, lives_config, went_down, marks, raises, does, lives_me}
use Rattle.rapid_safety.proofs.Rows.{own, LivesOn, receive_works, tick_works, rests_still, as_me}

-- the node in the next configuration
abbrev pub next_node : Node → Configuration → Cut → Node
next_node n c v =
    record {
      me = n.me;
      phase = phase_in (apply c v) n.me;
      installed = n.installed ++ stamp (apply c v) ∷ [];
      decisions = last_64 (n.decisions ++ (configuration_id c, v) ∷ []);
    }

-- what became of a member of c, whose acts there were these, in a step with further acts
pub data Stepped (c : Configuration) (acts : List Act) (n : Node) (more : List Act) : Node → Type 0 where
  goes_on : (heard : List Message) (s : MemberState) → Lives c n.me (acts ++ more) heard s None → heard ≡ taken_in n.me (acts ++ more) →
      Stepped c acts n more (record { me = n.me; phase = Member s; installed = n.installed; decisions = n.decisions })
  installs : (heard : List Message) (s : MemberState) (v : Cut) → Lives c n.me (acts ++ more) heard s (Some v) → (is_history_full n.installed c ≡ false) × (heard ≡ taken_in n.me (acts ++ more)) →
      Stepped c acts n more (next_node n c v)

AllMarks : List Act → Type 0
AllMarks [] = Unit {0}
AllMarks (a ∷ xs) = IsMark a × AllMarks xs

leaves_all : (c : Configuration) (me : Process) (acts : List Act) (heard : List Message) (s : MemberState) (v : Cut) (xs : List Act) → AllMarks xs → Lives c me acts heard s (Some v) → Lives c me (acts ++ xs) heard s (Some v)
unfolding AllMarks
leaves_all c me acts heard s v [] h l = subst (λ a. Lives c me a heard s (Some v)) (sym (append-nil acts)) l
leaves_all c me acts heard s v (a ∷ xs) h l =
    subst (λ a. Lives c me a heard s (Some v)) (append_assoc acts (a ∷ []) xs) (leaves_all c me (acts ++ a ∷ []) heard s v xs h.1 (leaves acts heard s v a l h.0))

marks_append : (xs ys : List Act) → AllMarks xs → AllMarks ys → AllMarks (xs ++ ys)
unfolding AllMarks
marks_append [] ys h k = k
marks_append (x ∷ xs) ys h k = (h.0, marks_append xs ys h.1 k)

answers_mark : (j : Process) (a : HostAnswer) → AllMarks (map Did (answer_to j a))
unfolding AllMarks
answers_mark j Nothing = tt
answers_mark j (Replies r) = (tt, tt)
answers_mark j (Confirms n) = (tt, tt)
answers_mark j Raises = tt

all_answers_mark : (ys : List (Process × HostAnswer)) → AllMarks (map Did (flat_map (λ x. answer_to x.0 x.1) ys))
unfolding AllMarks
all_answers_mark [] = tt
all_answers_mark (y ∷ ys) =
    subst AllMarks (sym (map-append Did (answer_to y.0 y.1) (flat_map (λ x. answer_to x.0 x.1) ys)))
    (marks_append (map Did (answer_to y.0 y.1)) _ (answers_mark y.0 y.1) (all_answers_mark ys))

-- who answers takes nothing
answers_taken : (me j : Process) (a : HostAnswer) → taken_in me (map Did (answer_to j a)) ≡ []
answers_taken me j Nothing = refl
answers_taken me j (Replies r) = refl
answers_taken me j (Confirms n) = refl
answers_taken me j Raises = refl

all_answers_taken : (me : Process) (ys : List (Process × HostAnswer)) → taken_in me (map Did (flat_map (λ x. answer_to x.0 x.1) ys)) ≡ []
all_answers_taken me [] = refl
all_answers_taken me (y ∷ ys) =
    ap (taken_in me) (map-append Did (answer_to y.0 y.1) (flat_map (λ x. answer_to x.0 x.1) ys))
    ∙ filter_map-append (taken_by me) (map Did (answer_to y.0 y.1)) (map Did (flat_map (λ x. answer_to x.0 x.1) ys))
    ∙ ap (λ l. l ++ taken_in me (map Did (flat_map (λ x. answer_to x.0 x.1) ys))) (answers_taken me y.0 y.1)
    ∙ all_answers_taken me ys

-- marks of a member that lives on
marked_all : (c : Configuration) (me : Process) (acts : List Act) (heard : List Message) (s : MemberState) (xs : List Act) → AllMarks xs → Lives c me acts heard s None → Lives c me (acts ++ xs) heard s None
unfolding AllMarks
marked_all c me acts heard s [] h l = subst (λ a. Lives c me a heard s None) (sym (append-nil acts)) l
marked_all c me acts heard s (a ∷ xs) h l =
    subst (λ a. Lives c me a heard s None) (append_assoc acts (a ∷ []) xs) (marked_all c me (acts ++ a ∷ []) heard s xs h.1 (does acts heard s (Some a) None s None l (marks a h.0)))

-- to say farewell is a mark, by which nothing is taken
leave_mark : (s : MemberState) (k : ℕ) (o : Option Process) → AllMarks (map Did (leave_to s k o))
unfolding AllMarks
leave_mark s k None = tt
leave_mark s k (Some p) = (tt, tt)

leave_taken : (me : Process) (s : MemberState) (k : ℕ) (o : Option Process) → taken_in me (map Did (leave_to s k o)) ≡ []
leave_taken me s k None = refl
leave_taken me s k (Some p) = refl

module _ (s : MemberState) where
  abbrev leave_on : ℕ → List Effect
  leave_on k = leave_to s k ((observers_of s.config).observer k s.me)

  leaves_mark : (ks : List ℕ) → AllMarks (map Did (flat_map leave_on ks))
  unfolding AllMarks
  leaves_mark [] = tt
  leaves_mark (k ∷ ks) =
      subst AllMarks (sym (map-append Did (leave_on k) (flat_map leave_on ks)))
      (marks_append (map Did (leave_on k)) _ (leave_mark s k ((observers_of s.config).observer k s.me)) (leaves_mark ks))

  leaves_taken : (me : Process) (ks : List ℕ) → taken_in me (map Did (flat_map leave_on ks)) ≡ []
  leaves_taken me [] = refl
  leaves_taken me (k ∷ ks) =
      ap (taken_in me) (map-append Did (leave_on k) (flat_map leave_on ks))
      ∙ filter_map-append (taken_by me) (map Did (leave_on k)) (map Did (flat_map leave_on ks))
      ∙ ap (λ l. l ++ taken_in me (map Did (flat_map leave_on ks))) (leave_taken me s k ((observers_of s.config).observer k s.me))
      ∙ leaves_taken me ks

  farewells_mark : AllMarks (map Did (farewells s))
  unfolding farewells
  farewells_mark = leaves_mark (rings (observers_of s.config))

  farewells_taken : (me : Process) → taken_in me (map Did (farewells s)) ≡ []
  unfolding farewells
  farewells_taken me = leaves_taken me (rings (observers_of s.config))

pub not_below : (n : ℕ) → nat_lt n n ≡ false
not_below n = Prim.grind arith

pub length-push : {A : Type 0} (xs : List A) (x : A) → length (xs ++ x ∷ []) ≡ length xs + 1
length-push [] x = refl
length-push (y ∷ ys) x = let r = length-push ys x in omega arith

pub below_next : (m n : ℕ) → n ≡ m + 1 → nat_lt m n ≡ true
below_next m n e = Prim.grind arith

-- a configuration that is entered is shown
pub shown_next : (c : Configuration) (me : Process) → shown_in (phase_in c me) ≡ Some c
unfolding fresh_member
shown_next c me = cond_both (is_member c me) (Member (fresh_member c me)) (Removed c) (λ p. shown_in p ≡ Some c) (λ e. refl) (λ e. refl)

pub install_act : (n : Node) (c : Configuration) (v : Cut) → install_acts n (next_node n c v) (configuration_of (next_node n c v)) ≡ Installed (apply c v) ∷ []
install_act n c v =
    ap (install_acts n (next_node n c v)) (shown_next (apply c v) n.me)
    ∙ ap (λ b. cond b (Installed (apply c v) ∷ []) []) (below_next (length n.installed) _ (length-push n.installed (stamp (apply c v))))

no_install_act : (n : Node) (s : MemberState) → install_acts n (record { me = n.me; phase = Member s; installed = n.installed; decisions = n.decisions }) (Some s.config) ≡ []
no_install_act n s = ap (λ b. cond b (Installed s.config ∷ []) []) (not_below (length n.installed))

regroup : (a b w k i : List Act) → (((a ++ b) ++ w) ++ k) ++ i ≡ a ++ ((b ++ (w ++ k)) ++ i)
regroup a b w k i = ap (λ l. l ++ i) (append_assoc (a ++ b) w k ∙ append_assoc a b (w ++ k)) ∙ append_assoc a (b ++ (w ++ k)) i

installed_acts : (n : Node) (c : Configuration) (v : Cut) (before : List Act) (es conf : List Effect) →
    (before ++ (map Did es ++ map Did conf)) ++ Installed (apply c v) ∷ [] ≡ acts_of before n (record { node = next_node n c v; effects = es ++ conf })
installed_acts n c v before es conf =
    ap (λ l. (before ++ l) ++ Installed (apply c v) ∷ []) (sym (map-append Did es conf))
    ∙ ap (λ l. (before ++ map Did (es ++ conf)) ++ l) (sym (install_act n c v))

module _ (c : Configuration) (n : Node) (acts before : List Act) (heard ms : List Message) (w : Work) (life : LivesOn c n.me (acts ++ before) heard n.me ms w) (sync : heard ++ ms ≡ taken_in n.me (acts ++ before)) where
  all_heard : heard ++ (ms ++ own n.me w.effects) ≡ taken_in n.me ((acts ++ before) ++ map Did w.effects)
  all_heard = sym (append_assoc heard ms (own n.me w.effects)) ∙ ap (λ l. l ++ own n.me w.effects) sync ∙ sym (filter_map-append (taken_by n.me) (acts ++ before) (map Did w.effects))

  settle_on : (d : Option Cut) → w.decided ≡ d → (o : Outcome) → settle_at n w d ≡ Some o → Stepped c acts n (acts_of before n o) o.node
  settle_on None e o h =
      let out : Outcome = stays_member n w in
      let same : out ≡ o = cc in
      let is : (acts ++ before) ++ map Did w.effects ≡ acts ++ acts_of before n out =
      append_assoc acts before (map Did w.effects) ∙ ap (λ l. acts ++ l) (sym (append-nil (before ++ map Did w.effects)) ∙ ap (λ l. (before ++ map Did w.effects) ++ l) (sym (no_install_act n w.state))) in
      subst (λ (x : Outcome). Stepped c acts n (acts_of before n x) x.node) same
      (goes_on (heard ++ (ms ++ own n.me w.effects)) w.state
      (subst (λ a. Lives c n.me a (heard ++ (ms ++ own n.me w.effects)) w.state None) is (subst (λ d. Lives c n.me ((acts ++ before) ++ map Did w.effects) (heard ++ (ms ++ own n.me w.effects)) w.state d) e life))
      (all_heard ∙ ap (taken_in n.me) is))
  settle_on (Some v) e o h = by (is_history_full n.installed w.state.config) refl h
    where
      by : (b : Bool) → is_history_full n.installed w.state.config ≡ b → cond b None (Some (put_before w.effects (install n w.state v))) ≡ Some o → Stepped c acts n (acts_of before n o) o.node
      by true full k = cc
      by false full k =
          let t : MemberState = w.state in
          let hs : List Message = heard ++ (ms ++ own n.me w.effects) in
          let conf : List Effect = flat_map (λ x. answer_to x.0 x.1) (confirms (apply t.config v) t.pending) in
          let out : Outcome = record { node = next_node n t.config v; effects = w.effects ++ conf } in
          let same : out ≡ o = unfold install in cc in
          let l0 : Lives c n.me ((acts ++ before) ++ map Did w.effects) hs t (Some v) = subst (λ d. Lives c n.me ((acts ++ before) ++ map Did w.effects) hs t d) e life in
          let l1 = leaves_all c n.me _ hs t v (map Did conf) (all_answers_mark (confirms (apply t.config v) t.pending)) l0 in
          let l2 = leaves _ hs t v (Installed (apply t.config v)) l1 tt in
          let at : t.config ≡ c = lives_config c n.me _ hs t (Some v) l0 in
          let acts_are : (((acts ++ before) ++ map Did w.effects) ++ map Did conf) ++ Installed (apply t.config v) ∷ [] ≡ acts ++ acts_of before n out = regroup acts before (map Did w.effects) (map Did conf) (Installed (apply t.config v) ∷ []) ∙ ap (λ l. acts ++ l) (installed_acts n t.config v before w.effects conf) in
          let done : List Act = ((acts ++ before) ++ map Did w.effects) ++ map Did conf in
          let none_more : taken_in n.me (done ++ Installed (apply t.config v) ∷ []) ≡ taken_in n.me ((acts ++ before) ++ map Did w.effects) =
          filter_map-append (taken_by n.me) done (Installed (apply t.config v) ∷ []) ∙ append-nil (taken_in n.me done)
          ∙ filter_map-append (taken_by n.me) ((acts ++ before) ++ map Did w.effects) (map Did conf)
          ∙ ap (λ l. taken_in n.me ((acts ++ before) ++ map Did w.effects) ++ l) (all_answers_taken n.me (confirms (apply t.config v) t.pending))
          ∙ append-nil (taken_in n.me ((acts ++ before) ++ map Did w.effects)) in
          let heard_all : hs ≡ taken_in n.me (acts ++ acts_of before n out) = all_heard ∙ sym none_more ∙ ap (taken_in n.me) acts_are in
          subst (λ (x : Outcome). Stepped c acts n (acts_of before n x) x.node) same
          (subst (λ d. Stepped c acts n (acts_of before n out) (next_node n d v)) (sym at)
          (installs hs t v
          (subst (λ a. Lives c n.me a hs t (Some v)) acts_are l2)
          (subst (λ d. is_history_full n.installed d ≡ false) at full, heard_all)))

  -- what comes of a member's work
  pub settled_steps : (o : Outcome) → settle n w ≡ Some o → Stepped c acts n (acts_of before n o) o.node
  unfolding settle
  settled_steps o h = settle_on w.decided refl o h

-- ---- what each event makes of a member

-- a member, all of whose messages were heard
module _ (c : Configuration) (n : Node) (acts : List Act) (heard : List Message) (s : MemberState) (l : Lives c n.me acts heard s None) (sync : heard ≡ taken_in n.me acts) (member : n.phase ≡ Member s) where
  mine : s.me ≡ n.me
  mine = lives_me c n.me acts heard s None l

  taken_more : (a : Act) → heard ++ taken_in n.me (a ∷ []) ≡ taken_in n.me (acts ++ a ∷ [])
  taken_more a = ap (λ h. h ++ taken_in n.me (a ∷ [])) sync ∙ sym (filter_map-append (taken_by n.me) acts (a ∷ []))

  pub ticks_step : (o : Outcome) → node_step n Tick ≡ Some o → Stepped c acts n (acts_of (Ticked ∷ []) n o) o.node
  unfolding node_step
  ticks_step o h =
      settled_steps c n acts (Ticked ∷ []) heard [] (on_tick s) (tick_works c n.me acts heard s l (sync ∙ ap (λ p. taken_in p acts) (sym mine))) (taken_more Ticked) o
      (subst (λ (p : Phase). step_tick n p ≡ Some o) member h)

  pub receive_step : (m : Message) (o : Outcome) → node_step n (Receive m) ≡ Some o → Stepped c acts n (acts_of (Took m ∷ []) n o) o.node
  unfolding node_step
  receive_step m o h =
      let w : Work = receive_as_member n.decisions s m.sender m.body in
      let one = does acts heard s (Some (Took m)) None s None l (marks (Took m) tt) in
      let known : In (taken_in s.me (acts ++ Took m ∷ [])) m = in_filter (taken_by s.me) (acts ++ Took m ∷ []) (Took m) m (in_right acts (Took m ∷ []) (Took m) (inl refl)) refl in
      settled_steps c n acts (Took m ∷ []) heard (m ∷ []) w
      (as_me c n.me (acts ++ Took m ∷ []) heard (m ∷ []) s w mine (receive_works c n.me (acts ++ Took m ∷ []) heard s one n.decisions m.sender m.body known))
      (taken_more (Took m)) o
      (subst (λ (p : Phase). step_receive n p m ≡ Some o) member h)

  pub leave_step : (o : Outcome) → node_step n Leave ≡ Some o → Stepped c acts n (acts_of [] n o) o.node
  unfolding node_step
  leave_step o h =
      let xs : List Effect = farewells s in
      let now : Lives c n.me (acts ++ []) heard s None = subst (λ a. Lives c n.me a heard s None) (sym (append-nil acts)) l in
      let said : Lives c n.me ((acts ++ []) ++ map Did xs) heard s None = marked_all c n.me (acts ++ []) heard s (map Did xs) (farewells_mark s) now in
      let same : heard ≡ heard ++ own n.me xs = sym (append-nil heard) ∙ ap (λ ms. heard ++ ms) (sym (farewells_taken s n.me)) in
      settled_steps c n acts [] heard [] (sends s xs) (subst (λ h. Lives c n.me ((acts ++ []) ++ map Did xs) h s None) same said)
      (append-nil heard ∙ sync ∙ ap (taken_in n.me) (sym (append-nil acts))) o
      (subst (λ (p : Phase). step_leave n p ≡ Some o) member h)

  pub probe_step : (id : List ℕ) (k : ℕ) (q : Process) (j : ℕ) (ok : Bool) (o : Outcome) → HasDownStretch (filter_map (result_on k) (acts ++ Probed j ok ∷ [])) → node_step n (EdgeDown id k q) ≡ Some o →
      Stepped c acts n (acts_of (Probed j ok ∷ []) n o) o.node
  unfolding node_step raise_alert
  probe_step id k q j ok o down h =
      let a : Alert = record { observer = s.me; subject = q; ring = k; kind = Remove; config = id } in
      let one = does acts heard s (Some (Probed j ok)) None s None l (marks (Probed j ok) tt) in
      let two = does (acts ++ Probed j ok ∷ []) heard s None None _ None one (raises a (went_down id k q down)) in
      settled_steps c n acts (Probed j ok ∷ []) heard [] (still (raise_alert s a)) (rests_still c n.me (acts ++ Probed j ok ∷ []) heard _ n.me two) (taken_more (Probed j ok)) o
      (subst (λ (p : Phase). step_edge_down n p id k q ≡ Some o) member h)
