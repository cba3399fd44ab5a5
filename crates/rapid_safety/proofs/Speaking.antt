-- At most one Accept a ballot goes out.
use Rattle.std.proofs.Common.{◌≡◌, ◌⊎◌, inl, inr, ℕ, List, refl, sym, ap, subst, ◌∙◌, Option, Some, None, ◌≤◌, true, arith, ◌+◌, Bool, false, cond, [], ◌∷◌, ◌++◌, map, filter}
use Rattle.std.specs.declared.cmp.Ordering.TheVariants.{Less}
use Rattle.rapid_safety.proofs.Basics.{ordering_then, nat_cmp, is_lt, count_by, and_parts, and_from, sum_by-append, In, in_from, contains_from, ballots_decided, same_bytes_decides, cases_lt}
use Rattle.rapid_safety.proofs.Values.{Process, Cut, Configuration, configuration_id, AreMembers, position_of, Ballot, Before, fast_ballot, is_below, Vote, same_ballot, Message, Body, Accept, Accepted, caught_up_by, Batch, FastVote, Prepare, Promise}
use Rattle.rapid_safety.proofs.Working.{Destination, Others, MemberState, Says, To, Itself, Proposes, current_id}
use Rattle.rapid_safety.proofs.Worlds.{World, Act, Did, Installed, Entry, MarkedEvent, run, founded, sent, acts_in, is_act_in, belongs_to, MembersSpeak, SpokenAsMembers, asks_at, is_asked_in, AcceptsOnce}
use Rattle.rapid_safety.proofs.Parts.{accept_cut}
use Rattle.rapid_agreement.proofs.Asking.{completes}
use Rattle.rapid_safety.proofs.Atoms.{push, message, Known, IsMark, IsAside, Atom, marks, asks, accepts_cut, Lives, enters, does, leaves, taken_in, lives_member}
use Rattle.rapid_safety.proofs.Voting.{Said, body_of, said_body, mark_body, taken_more}
use Rattle.rapid_safety.proofs.Members.{of_map, member_at, one_place, exists_counted}
use Rattle.rapid_safety.proofs.News.{said_new, TookSaid, to_acts, known_said, SaidIn, from_acts, sent_said}
use Rattle.rapid_safety.proofs.Told.{all_say, IsTold, step_tells, present_run}
use Rattle.rapid_safety.proofs.Steps.{Steps, run_keeps}
use Rattle.rapid_safety.proofs.Histories.{acts_at, Lived, of_option, PastLife, was_not, was}
use Rattle.rapid_safety.proofs.Asking.{LifeIn, life_of, asks_of, AskKept, lives_asks, new_one, asks_at_place}
use Rattle.rapid_safety.proofs.Lived.{lived_run}
use Rattle.std.proofs.lemmas.Option.{same_Some}
use Rattle.rapid_model.proofs.Among.{among_is}
use Rattle.rapid_model.proofs.Lists.{count_cons}

-- ---- what is said of a vote is said by a member

unfoldable pub Asides : World → Type 0
Asides w = (e : Entry) (to : Destination) (b : Body) → In w.log e → e.act ≡ Did (Says to b) → IsAside b ⊎ ((c : Configuration) × (e.at ≡ Some c))

pub asides_kept : (w v : World) → Steps w v → Asides w → Asides v
unfolding Asides
asides_kept w v s k e to b h is =
    elim (said_new w v s e to b h is) [
      | inl old ↦ k e to b old is
      | inr x ↦ subst (λ (o : Option Configuration). IsAside b ⊎ ((c : Configuration) × (o ≡ Some c))) (ap (λ (y : Entry). y.at) x.by)
          (all_say (IsTold x.move.peer.node x.move.outcome) x.move.outcome.effects to b (step_tells x.move.peer.node x.move.event x.move.outcome x.move.steps) x.effect).1
    ]

pub none_said_yet : (c : Configuration) → Asides (founded c)
unfolding Asides
none_said_yet c e to b h is = let r = of_map _ c.members e h in absurd (let z : Installed c ≡ Did (Says to b) = ap (λ (x : Entry). x.act) r.2 ∙ is in cc)

pub asides_run : (c : Configuration) (es : List MarkedEvent) → Asides (run es (founded c))
asides_run c es = run_keeps Asides asides_kept es (founded c) (none_said_yet c)

-- ---- with its identifier

pub record WordsKept (acts : List Act) (s : MemberState) : Type 0 where
  pub ids : (b : Body) → Said acts b → (IsAside b → ⊥) → caught_up_by b ≡ Some (current_id s)
  -- a cut is accepted that was asked for
  pub asked : (b : Ballot) (v : Cut) → Said acts (Accepted (current_id s) b v) → (from : Process) × Known acts s from (Accept (current_id s) b v)

words_same : (acts : List Act) (o : Option Act) (s t : MemberState) → t.config ≡ s.config → t.me ≡ s.me → ((b : Body) → body_of o ≡ Some b → (IsAside b → ⊥) → caught_up_by b ≡ Some (current_id s)) →
    ((b : Ballot) (v : Cut) → body_of o ≡ Some (Accepted (current_id s) b v) → (from : Process) × Known acts s from (Accept (current_id s) b v)) → WordsKept acts s → WordsKept (push acts o) t
words_same acts o s t config me new taken k =
    record {
      ids = λ b h off.
          let about : caught_up_by b ≡ Some (current_id s) = elim (said_body acts o b h) [ inl x ↦ k.ids b x off | inr x ↦ new b x off ] in
          about ∙ ap (λ c. Some (configuration_id c)) (sym config);
      asked = λ b v h.
          let r : (from : Process) × Known acts s from (Accept (current_id s) b v) = elim (said_body acts o _ (subst (λ c. Said (push acts o) (Accepted (configuration_id c) b v)) config h)) [ inl x ↦ k.asked b v x | inr x ↦ taken b v x ] in (
            r.0,
            subst (λ c. In (taken_in t.me (push acts o)) (message r.0 (Accept (configuration_id c) b v))) (sym config)
                (subst (λ x. In (taken_in x (push acts o)) (message r.0 (Accept (current_id s) b v))) (sym me) (taken_more s.me acts o _ r.1)),
          );
    }

-- the identifier that is carried, if something is said
abbrev carried : Option Body → Option (List ℕ)
carried None = None
carried (Some b) = caught_up_by b

words_kept : (acts : List Act) (heard : List Message) (s : MemberState) (a : Option Act) (m : Option Message) (t : MemberState) (d : Option Cut) → Atom acts heard s a m t d → WordsKept acts s → WordsKept (push acts a) t
words_kept acts heard s _ _ _ _ (marks x h) k = words_same acts (Some x) s s refl refl (λ b e off. absurd (off (mark_body x b h e))) (λ b v e. absurd (mark_body x _ h e)) k
words_kept acts heard s _ _ _ _ (accepts_cut from c u known ok) k =
    words_same acts (Some (Did (Says Others (Accepted (current_id s) c u)))) s _ refl refl (λ b e off. let about = ap carried e in cc)
    (λ b v h. (let one : c ≡ b = cc in let two : u ≡ v = cc in (from, subst (λ x. Known acts s from (Accept (current_id s) x v)) one (subst (λ x. Known acts s from (Accept (current_id s) c x)) two known)))) k
words_kept acts heard s a m t d x k = words_same acts a s t refl refl (λ b e off. let about = ap carried e in cc) (λ b v e. absurd (cc)) k

pub lives_words : (c : Configuration) (me : Process) (acts : List Act) (heard : List Message) (s : MemberState) (d : Option Cut) → Lives c me acts heard s d → WordsKept acts s
lives_words c me _ _ _ _ (enters k at) = record { ids = λ b h off. absurd h.1; asked = λ b v h. absurd h.1 }
lives_words c me _ _ _ _ (does acts heard s a m t d l x) = words_kept acts heard s a m t d x (lives_words c me acts heard s None l)
lives_words c me _ _ _ _ (leaves acts heard s v a l mark) = words_same acts (Some a) s s refl refl (λ b e off. absurd (off (mark_body a b mark e))) (λ b u e. absurd (mark_body a _ mark e)) (lives_words c me acts heard s (Some v) l)

-- ---- what is said of a vote is said by a member in a configuration, with its identifier

pub record SpokenBy (w : World) (p : Process) (b : Body) : Type 0 where
  pub config : Configuration
  pub life : LifeIn w.log p config
  pub said : Said (acts_at w.log p config) b
  pub about : caught_up_by b ≡ Some (configuration_id config)

pub spoken : (w : World) → Lived w → Asides w → (p : Process) (b : Body) → SaidIn w.log p b → (IsAside b → ⊥) → SpokenBy w p b
unfolding Asides
spoken w lived asides p b s off =
    elim (asides s.0 s.1 b s.2 s.4) [
      | inl x ↦ absurd (off x)
      | inr x ↦
          let d = x.0 in
          let here : Said (acts_at w.log p d) b = (s.1, subst (In (acts_at w.log p d)) s.4 (to_acts w.log p d s.0 s.2 s.3 x.1)) in
          let l = life_of w.log p d b (lived.past p d) here in
          record { config = d; life = l; said = here; about = (lives_words d p _ l.heard l.state l.decided l.life).ids b here off ∙ ap (λ z. Some (configuration_id z)) (sym l.config) }
    ]

pub above_fast : (b : Ballot) → 2 ≤ b.round → Before fast_ballot b
above_fast b h = rounds b.round b.position h
  where
    rounds : (r p : ℕ) → 2 ≤ r → is_below fast_ballot (record { round = r; position = p }) ≡ true
    rounds r p h = ap (λ o. is_lt (ordering_then o (nat_cmp 0 p))) (less r h)
      where
        less : (n : ℕ) → 2 ≤ n → nat_cmp 1 n ≡ Less
        less n h = Prim.grind arith

module _ (w : World) (lived : Lived w) (took : TookSaid w) (asides : Asides w) (id : List ℕ) (b : Ballot) (v : Cut) where
  -- a cut is asked for above the fast ballot
  pub asked_above : (p : Process) → SaidIn w.log p (Accept id b v) → Before fast_ballot b
  asked_above p s =
      let k = spoken w lived asides p (Accept id b v) s (λ z. z) in
      above_fast b ((asks_of w.log p k.config k.life).asked b v (subst (λ i. Said (acts_at w.log p k.config) (Accept i b v)) (same_Some _ _ k.about) k.said)).from_two

  -- and accepted there
  pub accepted_above : (p : Process) → SaidIn w.log p (Accepted id b v) → Before fast_ballot b
  accepted_above p s =
      let k = spoken w lived asides p (Accepted id b v) s (λ z. z) in
      let l = k.life in
      let same : id ≡ current_id l.state = same_Some _ _ k.about ∙ ap configuration_id l.config in
      let a = (lives_words k.config p _ l.heard l.state l.decided l.life).asked b v (subst (λ i. Said (acts_at w.log p k.config) (Accepted i b v)) same k.said) in
      let known : In (taken_in p (acts_at w.log p k.config)) (message a.0 (Accept id b v)) =
      subst (λ x. In (taken_in x (acts_at w.log p k.config)) (message a.0 (Accept id b v))) (sym l.me) (subst (λ i. In (taken_in l.state.me (acts_at w.log p k.config)) (message a.0 (Accept i b v))) (sym same) a.1) in
      asked_above a.0 (known_said w took p a.0 k.config (Accept id b v) known)

-- ---- each batch, vote and word of a ballot was said by a member in a configuration whose identifier it carries

-- what belongs to a configuration is said by members alone, with its identifier
not_aside : (b : Body) (id : List ℕ) → belongs_to b ≡ Some id → IsAside b → ⊥
not_aside (Batch i xs) id h off = off
not_aside (FastVote i v) id h off = off
not_aside (Prepare i b) id h off = off
not_aside (Promise i b vote) id h off = off
not_aside (Accept i b v) id h off = off
not_aside (Accepted i b v) id h off = off
not_aside x id h off = cc

carries : (b : Body) (id : List ℕ) → belongs_to b ≡ Some id → caught_up_by b ≡ Some id
carries (Batch i xs) id h = h
carries b id h = cc

pub members_speak : (c : Configuration) (es : List MarkedEvent) → AreMembers c.members → MembersSpeak (run es (founded c))
members_speak c es are p id b h belongs =
    let w = run es (founded c) in
    let k = spoken w (lived_run c es are) (asides_run c es) p b (sent_said w.log p b (in_from (sent w) (message p b) h)) (not_aside b id belongs) in
    let d = k.config in
    let l = k.life in
    let place = lives_member d p _ l.heard l.state l.decided l.life in
    let e = from_acts w.log p d (Did (Says k.said.0 b)) k.said.1 in
    let was = (present_run c es are).at e.0 d e.1 e.3 in (
      d,
      same_Some _ _ (sym k.about ∙ carries b id belongs),
      among_is d.members p (member_at p d.members place.0 place.1),
      (was.0, contains_from w.log was.0 was.1, was.2 ∙ e.2, was.3),
      (k.said.0, contains_from (acts_in w p d) (Did (Says k.said.0 b)) k.said.1),
    )

-- each act that says such a word is one of a member
pub words_are_of_members : (c : Configuration) (es : List MarkedEvent) → AreMembers c.members → SpokenAsMembers (run es (founded c))
unfolding Asides
words_are_of_members c es are e to b id h is belongs =
    elim (asides_run c es e to b (in_from (run es (founded c)).log e h) is) [
      | inl x ↦ absurd (not_aside b id belongs x)
      | inr x ↦
          let w = run es (founded c) in
          let d = x.0 in
          let said : Said (acts_at w.log e.who d) b = (to, subst (In (acts_at w.log e.who d)) is (to_acts w.log e.who d e (in_from w.log e h) refl x.1)) in
          let l = life_of w.log e.who d b ((lived_run c es are).past e.who d) said in
          let own = (lives_words d e.who _ l.heard l.state l.decided l.life).ids b said (not_aside b id belongs) in
          (d, x.1, ap configuration_id l.config ∙ same_Some _ _ (sym own ∙ carries b id belongs))
    ]

-- ---- at most one Accept a ballot goes out

-- ---- counting

count_end : {A : Type 0} (f : A → Bool) (xs : List A) (x : A) (b : Bool) → f x ≡ b → count_by f (xs ++ x ∷ []) ≡ count_by f xs + cond b 1 0
count_end f xs x b e =
    let all : count_by f (xs ++ x ∷ []) ≡ count_by f xs + count_by f (x ∷ []) = sum_by-append (λ y. cond (f y) 1 0) xs (x ∷ []) in
    let last : count_by f (x ∷ []) ≡ cond b 1 0 + 0 = count_cons f x [] ∙ ap (λ t. cond t 1 0 + 0) e in
    omega (arith, all, last)

none_counted : (n : ℕ) → (1 ≤ n → ⊥) → n ≡ 0
none_counted n f = elim (cases_lt 0 n) [ inl h ↦ absurd (f (omega arith)) | inr h ↦ omega arith ]

-- ---- a member's acts

-- what is new asks at the ballot
abbrev asks_now : Ballot → Option Act → Bool
asks_now b None = false
asks_now b (Some a) = asks_at b a

abbrev Single : List Act → Type 0
Single acts = (b : Ballot) → count_by (asks_at b) acts ≤ 1

stays_single : (acts : List Act) (o : Option Act) → ((b : Ballot) → asks_now b o ≡ false) → Single acts → Single (push acts o)
stays_single acts None quiet k = k
stays_single acts (Some a) quiet k = λ b. let e = count_end (asks_at b) acts a false (quiet b) in let h = k b in omega (arith, e, h)

marked : (a : Act) (b : Ballot) → IsMark a → asks_at b a ≡ false
marked (Did (Says (To e) (Accept id c v))) b h = absurd h
marked (Did (Says Others c)) b h = absurd h
marked (Did (Says Itself c)) b h = absurd h
marked (Did (Proposes v)) b h = refl
marked x b h = refl

-- an act that asks at the ballot says so
asked_act : (a : Act) (b : Ballot) → asks_at b a ≡ true → (to : Destination) × (id : List ℕ) × (v : Cut) × (a ≡ Did (Says to (Accept id b v)))
asked_act (Did (Says to (Accept id c v))) b h = (to, id, v, ap (λ x. Did (Says to (Accept id x v))) ((ballots_decided c b).0 h))
asked_act x b h = cc

-- nothing was asked yet at the ballot of the coordinator before it asks
first : (acts : List Act) (s : MemberState) → WordsKept acts s → AskKept s.config s.me acts s.coordinator s.proposal → (p : ℕ) (b : Ballot) (vote : Option (Vote Cut)) (v : Cut) → accept_cut s.coordinator p b vote s.proposal ≡ Some v → count_by (asks_at b) acts ≡ 0
first acts s words k p b vote v e = none_counted _ (λ some. let x = exists_counted (asks_at b) acts some in no x.0 x.1 (asked_act x.0 b x.2))
  where
    no : (a : Act) → In acts a → (to : Destination) × (id : List ℕ) × (u : Cut) × (a ≡ Did (Says to (Accept id b u))) → ⊥
    no a i r =
        let said : Said acts (Accept r.1 b r.2) = (r.0, subst (In acts) r.3 i) in
        let mine : r.1 ≡ current_id s = same_Some _ _ (words.ids _ said (λ z. z)) in
        let c = completes s.coordinator p b vote s.proposal v e in
        omega (arith, ((k.asked b r.2 (subst (λ id. Said acts (Accept id b r.2)) mine said)).enough (new_one s.coordinator p b c.0).0), c.1)

single_kept : (acts : List Act) (heard : List Message) (s : MemberState) (a : Option Act) (m : Option Message) (t : MemberState) (d : Option Cut) → Atom acts heard s a m t d → WordsKept acts s → AskKept s.config s.me acts s.coordinator s.proposal → Single acts → Single (push acts a)
single_kept acts heard s _ _ _ _ (marks x h) words k old = stays_single acts (Some x) (λ b. marked x b h) old
single_kept acts heard s _ _ _ _ (asks from p b vote v known at e) words k old = λ d. by d (same_ballot b d) refl
  where
    by : (d : Ballot) (t : Bool) → same_ballot b d ≡ t → count_by (asks_at d) (push acts (Some (Did (Says Others (Accept (current_id s) b v))))) ≤ 1
    by d true same = omega (arith, (count_end (asks_at d) acts (Did (Says Others (Accept (current_id s) b v))) true same), (subst (λ x. count_by (asks_at x) acts ≡ 0) ((ballots_decided b d).0 same) (first acts s words k p b vote v e)))
    by d false other = omega (arith, (count_end (asks_at d) acts (Did (Says Others (Accept (current_id s) b v))) false other), (old d))
single_kept acts heard s a m t d x words k old = stays_single acts a (λ b. refl) old

lives_single : (c : Configuration) (me : Process) (acts : List Act) (heard : List Message) (s : MemberState) (d : Option Cut) → Lives c me acts heard s d → Single acts
lives_single c me _ _ _ _ (enters k at) = λ b. omega arith
lives_single c me _ _ _ _ (does acts heard s a m t d l x) = single_kept acts heard s a m t d x (lives_words c me acts heard s None l) (lives_asks c me acts heard s None l) (lives_single c me acts heard s None l)
lives_single c me _ _ _ _ (leaves acts heard s v a l mark) = stays_single acts (Some a) (λ b. marked a b mark) (lives_single c me acts heard s (Some v) l)

-- ---- in the log

past_single : (log : List Entry) (p : Process) (c : Configuration) → PastLife log p c → Single (acts_at log p c)
past_single log p c (was_not none) = λ b. subst (λ xs. count_by (asks_at b) xs ≤ 1) (sym none) (omega arith)
past_single log p c (was heard s d l) = lives_single c p _ heard s d l

-- if all that ask are p, they are acts of p
all_of_one : (c : Configuration) (b : Ballot) (p : Process) (log : List Entry) → ((e : Entry) → In log e → is_asked_in c b e ≡ true → e.who ≡ p) → count_by (is_asked_in c b) log ≤ count_by (asks_at b) (acts_at log p c)
all_of_one c b p [] h = omega arith
all_of_one c b p (e ∷ log) h = by (is_asked_in c b e) refl (is_act_in p c e) refl (count_cons (is_asked_in c b) e log) (all_of_one c b p log (λ x i. h x (inr i)))
  where
    mine : is_asked_in c b e ≡ true → is_act_in p c e ≡ true
    mine asked = and_from _ _ ((same_bytes_decides p e.who).1 (sym (h e (inl refl) asked))) (and_parts _ _ asked).0

    by : (x : Bool) → is_asked_in c b e ≡ x → (y : Bool) → is_act_in p c e ≡ y → count_by (is_asked_in c b) (e ∷ log) ≡ cond (is_asked_in c b e) 1 0 + count_by (is_asked_in c b) log →
        count_by (is_asked_in c b) log ≤ count_by (asks_at b) (acts_at log p c) → count_by (is_asked_in c b) (e ∷ log) ≤ count_by (asks_at b) (map (λ w. w.act) (cond y (e ∷ filter (is_act_in p c) log) (filter (is_act_in p c) log)))
    by true i true j n g = omega (arith, (n ∙ ap (λ t. cond t 1 0 + count_by (is_asked_in c b) log) i), (count_cons (asks_at b) e.act (acts_at log p c) ∙ ap (λ t. cond t 1 0 + count_by (asks_at b) (acts_at log p c)) (and_parts _ _ i).1), g)
    by true i false j n g = let wrong : true ≡ false = sym (mine i) ∙ j in cc
    by false i true j n g = omega (arith, (n ∙ ap (λ t. cond t 1 0 + count_by (is_asked_in c b) log) i), (count_cons (asks_at b) e.act (acts_at log p c)), g)
    by false i false j n g = omega (arith, (n ∙ ap (λ t. cond t 1 0 + count_by (is_asked_in c b) log) i), g)

-- who asks has the ballot's place
asker : (w : World) → Lived w → (c : Configuration) (b : Ballot) (e : Entry) → In w.log e → is_asked_in c b e ≡ true →
    position_of c e.who ≡ Some b.position
asker w lived c b e i asked =
    let parts = and_parts _ _ asked in
    let r = asked_act e.act b parts.1 in
    let said : Said (acts_at w.log e.who c) (Accept r.1 b r.2) = (r.0, subst (In (acts_at w.log e.who c)) r.3 (to_acts w.log e.who c e i refl (of_option e.at c parts.0))) in
    let l = life_of w.log e.who c _ (lived.past e.who c) said in
    let mine : r.1 ≡ configuration_id c = same_Some _ _ ((lives_words c e.who _ l.heard l.state l.decided l.life).ids _ said (λ z. z)) ∙ ap configuration_id (sym l.config) in
    asks_at_place w.log e.who c b r.2 l (subst (λ id. Said (acts_at w.log e.who c) (Accept id b r.2)) mine said)

accepts_once : (w : World) → Lived w → AcceptsOnce w
accepts_once w lived c b =
    elim (cases_lt 0 (count_by (is_asked_in c b) w.log)) [
      | inl more ↦ (
          let some : 1 ≤ count_by (is_asked_in c b) w.log = omega arith in
          let x = exists_counted (is_asked_in c b) w.log some in
          let p = x.0.who in
          omega (arith, (all_of_one c b p w.log (λ e i asked. one_place e.who p c.members b.position (asker w lived c b e i asked) (asker w lived c b x.0 x.1 x.2))), (past_single w.log p c (lived.past p c) b)))
      | inr none ↦ omega arith
    ]

pub accepts_go_out_once : (c : Configuration) (events : List MarkedEvent) → AreMembers c.members → AcceptsOnce (run events (founded c))
accepts_go_out_once c es are = accepts_once (run es (founded c)) (lived_run c es are)
