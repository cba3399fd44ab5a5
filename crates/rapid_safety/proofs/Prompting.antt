-- A member that has heard a decision has left.
use Rattle.std.proofs.Common.{◌≡◌, inl, inr, ℕ, Bool, true, false, ◌||◌, ◌==◌, List, refl, sym, ap, subst, ◌∙◌, Option, Some, None, arith, ◌<◌, ◌+◌, cond, not, ◌&&◌, unwrap_or, ◌≤◌, [], ◌∷◌, count_by, length}
use Rattle.rapid_safety.proofs.Basics.{nat_le, slice_get-get_or, false_from_ne_true, In, in_from, contains_from, same_bytes_decides, notices_total, same_cut_decides}
use Rattle.std.specs.FinSet as set
use Rattle.std.specs.FinMap as map
use Rattle.rapid_safety.proofs.Values.{Process, same_bytes, Cut, cut_cmp, same_cut, Configuration, configuration_id, position_of, AreMembers, Ballot, same_ballot, fast_ballot, Message, Body, FastVote, Accepted, Decision, classic_size, fast_size, IsClassic, IsFast}
use Rattle.rapid_safety.proofs.Parts.{FastRound, hear_vote, count_of, fast_decision, after_notice, Learner, notice_count, notices_with, completes_notices, learnt}
use Rattle.rapid_safety.proofs.Working.{MemberState, fresh_member, Phase, Member, member_config, current_id, own_place}
use Rattle.rapid_safety.proofs.Worlds.{Act, MarkedEvent, run, founded, received, Received, Sent, HeardFromEach, HeardDecision, by_votes, by_notices, by_message, Prompt, NoCollision}
use Rattle.rapid_model.proofs.Rounds.{heard-hear_vote, hear_vote-heard, hear_vote-new, count_of-one_more}
use Rattle.rapid_agreement.proofs.SetLemmas.{new_in, old_in, insert_known, len_new_kept}
use Rattle.rapid_safety.proofs.Atoms.{push, message, IsIdle, Atom, marks, votes_again, ignores, casts, hears_vote, hears_notice, hears_decision, Lives, enters, does, leaves, atom_config, lives_placed, taken_in, Known, lives_me}
use Rattle.rapid_safety.proofs.Voting.{in_push}
use Rattle.rapid_safety.proofs.Deciding.{notices_exact, is_of, of_is, no_notices, says_it, says_so, backed_by, lives_votes, lives_notices}
use Rattle.rapid_safety.proofs.Members.{position_in, one_place, Distinct}
use Rattle.rapid_safety.proofs.Histories.{acts_at, now_member}
use Rattle.rapid_safety.proofs.Lived.{lived_run}
use Rattle.rapid_safety.proofs.News.{received_were_said}
use Rattle.rapid_safety.proofs.Nodes.{WasInstalled, was_installed}
use Rattle.rapid_safety.proofs.Told.{present_run}
use Rattle.rapid_safety.proofs.Descent.{installed_distinct}
use Rattle.rapid_safety.proofs.Rules.{installed_keeps_rules}
use Rattle.rapid_safety.proofs.Steps.{StandsAt}
use Rattle.std.proofs.lemmas.Option.{same_Some}
use Rattle.rapid_model.proofs.Among.{among_is}
use Rattle.rapid_model.proofs.Lists.{count_cons}
use Rattle.std.proofs.lemmas.Bool.{or_right}

not_itself : {A : Type 0} (id : List ℕ) → same_bytes id id ≡ false → A
not_itself id h = let t = (same_bytes_decides id id).1 refl in let wrong : true ≡ false = sym t ∙ h in cc

number_itself : (n : ℕ) → (n == n) ≡ true
number_itself n = Prim.grind arith

-- the sender and the body of what is heard, if something is
abbrev heard_sender : Option Message → Option Process
heard_sender None = None
heard_sender (Some m) = Some m.sender

abbrev heard_body : Option Message → Option Body
heard_body None = None
heard_body (Some m) = Some m.body

-- ---- votes

-- the place of a vote that is taken is counted
pub own_heard : (f : FastRound) (p : ℕ) (v : Cut) → set.contains (hear_vote f p v).heard p ≡ true
own_heard f p v = heard-hear_vote f p p v ∙ ap (λ b. b || set.contains f.heard p) (number_itself p)

fast_grows : (acts : List Act) (heard : List Message) (s : MemberState) (a : Option Act) (m : Option Message) (t : MemberState) (d : Option Cut) → Atom acts heard s a m t d → (k : ℕ) → set.contains s.fast.heard k ≡ true → set.contains t.fast.heard k ≡ true
fast_grows acts heard s _ _ _ _ (marks x h) k e = e
fast_grows acts heard s _ _ _ _ (hears_vote q p u known there) k e = heard-hear_vote s.fast p k u ∙ or_right (p == k) (set.contains s.fast.heard k) e
fast_grows acts heard s _ _ _ _ (casts u own ok) k e = heard-hear_vote s.fast (own_place s) k u ∙ or_right (own_place s == k) (set.contains s.fast.heard k) e
fast_grows acts heard s _ _ _ _ x k e = e

vote_heard : (acts : List Act) (heard : List Message) (s : MemberState) (a : Option Act) (m : Option Message) (t : MemberState) (d : Option Cut) → position_of s.config s.me ≡ Some (own_place s) → (s.voted ≡ true → set.contains s.fast.heard (own_place s) ≡ true) →
    Atom acts heard s a m t d → (from : Process) (v : Cut) (p : ℕ) → m ≡ Some (message from (FastVote (current_id s) v)) → position_of s.config from ≡ Some p → set.contains t.fast.heard p ≡ true
vote_heard acts heard s _ _ _ _ mine own (marks x h) from v p e at = cc
vote_heard acts heard s _ _ _ _ mine own (hears_vote q k u known there) from v p e at =
    let who : q ≡ from = same_Some _ _ (ap heard_sender e) in
    let same : k ≡ p = same_Some _ _ (sym there ∙ ap (position_of s.config) who ∙ at) in
    subst (λ n. set.contains (hear_vote s.fast k u).heard n ≡ true) same (own_heard s.fast k u)
vote_heard acts heard s _ _ _ _ mine own (casts u proposed ok) from v p e at =
    let same : own_place s ≡ p = same_Some _ _ (sym mine ∙ ap (position_of s.config) (same_Some _ _ (ap heard_sender e)) ∙ at) in
    subst (λ n. set.contains (hear_vote s.fast (own_place s) u).heard n ≡ true) same (own_heard s.fast (own_place s) u)
vote_heard acts heard s _ _ _ _ mine own (votes_again u voted proposed) from v p e at =
    let same : own_place s ≡ p = same_Some _ _ (sym mine ∙ ap (position_of s.config) (same_Some _ _ (ap heard_sender e)) ∙ at) in
    subst (λ n. set.contains s.fast.heard n ≡ true) same (own voted)
vote_heard acts heard s _ _ _ _ mine own (ignores q b known idle) from v p e at =
    let who : q ≡ from = same_Some _ _ (ap heard_sender e) in
    let what : b ≡ FastVote (current_id s) v = same_Some _ _ (ap heard_body e) in
    let off : IsIdle s from (FastVote (current_id s) v) = subst (λ x. IsIdle s x (FastVote (current_id s) v)) who (subst (IsIdle s q) what idle) in
    elim off [ inl h ↦ not_itself (current_id s) h | inr h ↦ (let wrong : None ≡ Some p = sym h ∙ at in cc) ]
vote_heard acts heard s _ _ _ _ mine own x from v p e at = let body = ap heard_body e in cc

-- who cast its vote counts it
own_kept : (acts : List Act) (heard : List Message) (s : MemberState) (a : Option Act) (m : Option Message) (t : MemberState) (d : Option Cut) → Atom acts heard s a m t d → (s.voted ≡ true → set.contains s.fast.heard (own_place s) ≡ true) →
    t.voted ≡ true → set.contains t.fast.heard (own_place t) ≡ true
own_kept acts heard s _ _ _ _ (marks x h) own e = own e
own_kept acts heard s _ _ _ _ (casts u proposed ok) own e = own_heard s.fast (own_place s) u
own_kept acts heard s a m t d x own e = fast_grows acts heard s a m t d x (own_place s) (own e)

-- ---- notices

notice_heard : (acts : List Act) (heard : List Message) (s : MemberState) (a : Option Act) (m : Option Message) (t : MemberState) (d : Option Cut) → Atom acts heard s a m t d →
    (from : Process) (b : Ballot) (v : Cut) (p : ℕ) → m ≡ Some (message from (Accepted (current_id s) b v)) → position_of s.config from ≡ Some p → set.contains t.learner.notices ((b, v), p) ≡ true
unfolding after_notice
notice_heard acts heard s _ _ _ _ (marks x h) from b v p e at = cc
notice_heard acts heard s _ _ _ _ (hears_notice q k a u known there) from b v p e at =
    let who : q ≡ from = same_Some _ _ (ap heard_sender e) in
    let body : Accepted (current_id s) a u ≡ Accepted (current_id s) b v = same_Some _ _ (ap heard_body e) in
    let ballot : a ≡ b = cc in
    let cut : u ≡ v = cc in
    let same : k ≡ p = same_Some _ _ (sym there ∙ ap (position_of s.config) who ∙ at) in
    subst (λ n. set.contains (set.insert s.learner.notices ((a, u), k)) ((b, v), n) ≡ true) same
    (subst (λ x. set.contains (set.insert s.learner.notices ((a, u), k)) ((b, x), k) ≡ true) cut
    (subst (λ x. set.contains (set.insert s.learner.notices ((a, u), k)) ((x, u), k) ≡ true) ballot (new_in notices_total notices_exact s.learner.notices ((a, u), k))))
notice_heard acts heard s _ _ _ _ (ignores q c known idle) from b v p e at =
    let who : q ≡ from = same_Some _ _ (ap heard_sender e) in
    let what : c ≡ Accepted (current_id s) b v = same_Some _ _ (ap heard_body e) in
    let off : IsIdle s from (Accepted (current_id s) b v) = subst (λ x. IsIdle s x (Accepted (current_id s) b v)) who (subst (IsIdle s q) what idle) in
    elim off [ inl h ↦ not_itself (current_id s) h | inr h ↦ (let wrong : None ≡ Some p = sym h ∙ at in cc) ]
notice_heard acts heard s _ _ _ _ x from b v p e at = let body = ap heard_body e in cc

notices_grow : (acts : List Act) (heard : List Message) (s : MemberState) (a : Option Act) (m : Option Message) (t : MemberState) (d : Option Cut) → Atom acts heard s a m t d → (x : Ballot × Cut) (k : ℕ) → set.contains s.learner.notices (x, k) ≡ true → set.contains t.learner.notices (x, k) ≡ true
unfolding after_notice
notices_grow acts heard s _ _ _ _ (marks y h) x k e = e
notices_grow acts heard s _ _ _ _ (hears_notice q p a u known there) x k e = old_in notices_total notices_exact s.learner.notices ((a, u), p) (x, k) e
notices_grow acts heard s _ _ _ _ y x k e = e

-- ---- Decisions

decision_heard : (acts : List Act) (heard : List Message) (s : MemberState) (a : Option Act) (m : Option Message) (t : MemberState) (d : Option Cut) → Atom acts heard s a m t d → d ≡ None → (from : Process) (v : Cut) → m ≡ Some (message from (Decision (current_id s) v)) → ⊥
decision_heard acts heard s _ _ _ _ (marks x h) none from v e = absurd (cc)
decision_heard acts heard s _ _ _ _ (hears_decision q u known) none from v e = absurd (cc)
decision_heard acts heard s _ _ _ _ (ignores q b known idle) none from v e =
    let what : b ≡ Decision (current_id s) v = same_Some _ _ (ap heard_body e) in
    not_itself (current_id s) (subst (IsIdle s q) what idle)
decision_heard acts heard s _ _ _ _ x none from v e = let body = ap heard_body e in absurd (cc)

-- ---- through a member's life

pub record HearingKept (acts : List Act) (heard : List Message) (s : MemberState) : Type 0 where
  pub votes : (from : Process) (v : Cut) (p : ℕ) → In heard (message from (FastVote (current_id s) v)) → position_of s.config from ≡ Some p → set.contains s.fast.heard p ≡ true
  pub own : s.voted ≡ true → set.contains s.fast.heard (own_place s) ≡ true
  pub notices : (from : Process) (b : Ballot) (v : Cut) (p : ℕ) → In heard (message from (Accepted (current_id s) b v)) → position_of s.config from ≡ Some p → set.contains s.learner.notices ((b, v), p) ≡ true
  pub decision : (from : Process) (v : Cut) → In heard (message from (Decision (current_id s) v)) → ⊥

hearing_kept : (acts : List Act) (heard : List Message) (s : MemberState) (a : Option Act) (m : Option Message) (t : MemberState) (d : Option Cut) → position_of s.config s.me ≡ Some (own_place s) → Atom acts heard s a m t d → d ≡ None →
    HearingKept acts heard s → HearingKept (push acts a) (push heard m) t
hearing_kept acts heard s a m t d mine x none k =
    record {
      votes = λ from v p i at. let at' : position_of s.config from ≡ Some p = ap (λ c. position_of c from) (sym config) ∙ at in
          elim (in_push heard m _ (subst (λ c. In (push heard m) (message from (FastVote (configuration_id c) v))) config i)) [
            | inl j ↦ fast_grows acts heard s a m t d x p (k.votes from v p j at')
            | inr e ↦ vote_heard acts heard s a m t d mine k.own x from v p e at'
          ];
      own = own_kept acts heard s a m t d x k.own;
      notices = λ from b v p i at. let at' : position_of s.config from ≡ Some p = ap (λ c. position_of c from) (sym config) ∙ at in
          elim (in_push heard m _ (subst (λ c. In (push heard m) (message from (Accepted (configuration_id c) b v))) config i)) [
            | inl j ↦ notices_grow acts heard s a m t d x (b, v) p (k.notices from b v p j at')
            | inr e ↦ notice_heard acts heard s a m t d x from b v p e at'
          ];
      decision = λ from v i. elim (in_push heard m _ (subst (λ c. In (push heard m) (message from (Decision (configuration_id c) v))) config i)) [
        | inl j ↦ k.decision from v j
        | inr e ↦ decision_heard acts heard s a m t d x none from v e
      ];
    }
  where
    config : t.config ≡ s.config
    config = atom_config acts heard s a m t d x

pub lives_hearing : (c : Configuration) (me : Process) (acts : List Act) (heard : List Message) (s : MemberState) (d : Option Cut) → Lives c me acts heard s d → d ≡ None → HearingKept acts heard s
unfolding fresh_member
lives_hearing c me _ _ _ _ (enters k at) none = record { votes = λ from v p i. absurd i; own = λ e. cc; notices = λ from b v p i. absurd i; decision = λ from v i. i }
lives_hearing c me _ _ _ _ (does acts heard s a m t d l x) none = hearing_kept acts heard s a m t d (lives_placed c me acts heard s None l) x none (lives_hearing c me acts heard s None l refl)
lives_hearing c me _ _ _ _ (leaves acts heard s v a l mark) none = cc

-- ---- in a life that goes on no counter is complete, and all that was heard is counted

-- neither counter is complete
pub record Undecided (f : FastRound) (l : Learner) : Type 0 where
  pub votes : (v : Cut) → count_of f.counts v < fast_size f.size
  pub notices : (b : Ballot) (v : Cut) → notice_count l.notices b v < classic_size l.size
  pub decided : l.decided ≡ false

-- ---- a vote that decides nothing

module _ (f : FastRound) (p : ℕ) (v : Cut) (below : (u : Cut) → count_of f.counts u < fast_size f.size) (none : fast_decision f p v ≡ None) where
  not_full : set.contains f.heard p ≡ false → (count_of f.counts v + 1 == fast_size f.size) ≡ false
  unfolding fast_decision
  not_full new =
      false_from_ne_true _ (λ e.
      let is : fast_decision f p v ≡ Some v = unfold fast_decision in ap (λ b. cond b None (cond (count_of f.counts v + 1 == fast_size f.size) (Some v) None)) new ∙ ap (λ b. cond b (Some v) None) e in
      let wrong : None ≡ Some v = sym none ∙ is in cc)

  still_below : (u : Cut) → count_of (hear_vote f p v).counts u < fast_size (hear_vote f p v).size
  still_below u = by (set.contains f.heard p) refl
    where
      one : set.contains f.heard p ≡ false → (b : Bool) → same_cut v u ≡ b → count_of f.counts u + cond b 1 0 < fast_size f.size
      one new true e = subst (λ x. count_of f.counts x + 1 < fast_size f.size) ((same_cut_decides v u).0 e) (Prim.grind (arith, (below v), (not_full new)))
      one new false e = subst (λ n. n < fast_size f.size) (omega arith) (below u)

      by : (b : Bool) → set.contains f.heard p ≡ b → count_of (hear_vote f p v).counts u < fast_size (hear_vote f p v).size
      by true e = subst (λ (g : FastRound). count_of g.counts u < fast_size g.size) (sym (hear_vote-heard f p v e)) (below u)
      by false e =
          subst (λ (g : FastRound). count_of g.counts u < fast_size g.size) (sym (hear_vote-new f p v e))
          (subst (λ n. n < fast_size f.size) (sym (count_of-one_more f.counts v u)) (one e (same_cut v u) refl))

-- ---- a notice that decides nothing

module _ (l : Learner) (p : ℕ) (b : Ballot) (v : Cut) (below : (a : Ballot) (u : Cut) → notice_count l.notices a u < classic_size l.size) (open_still : l.decided ≡ false) (none : learnt l p b v ≡ None) where
  not_complete : completes_notices l p b v ≡ false
  unfolding learnt
  not_complete =
      false_from_ne_true _ (λ e. let is : learnt l p b v ≡ Some v = unfold learnt in ap (λ t. cond t (Some v) None) e in let wrong : None ≡ Some v = sym none ∙ is in cc)

  few_here : notice_count (notices_with l p b v) b v < classic_size l.size
  few_here = Prim.grind (arith, (sym (ap (λ d. not d && nat_le (classic_size l.size) (notice_count (notices_with l p b v) b v)) open_still) ∙ not_complete))

  few_all : (a : Ballot) (u : Cut) → notice_count (notices_with l p b v) a u < classic_size l.size
  few_all a u = by (set.contains l.notices ((b, v), p)) refl
    where
      new : set.contains l.notices ((b, v), p) ≡ false → (t : Bool) → is_of a u (b, v) ≡ t → notice_count (notices_with l p b v) a u < classic_size l.size
      new e true is = let same = of_is a u (b, v) is in subst (λ (x : Ballot × Cut). notice_count (notices_with l p b v) x.0 x.1 < classic_size l.size) same few_here
      new e false is =
          subst (λ n. n < classic_size l.size)
          (sym (len_new_kept notices_total notices_exact l.notices ((b, v), p) (λ x. same_ballot x.0.0 a && same_cut x.0.1 u) e ∙ ap (λ t. cond t 1 0 + notice_count l.notices a u) is ∙ sym (omega arith)))
          (below a u)

      by : (t : Bool) → set.contains l.notices ((b, v), p) ≡ t → notice_count (notices_with l p b v) a u < classic_size l.size
      by true e = subst (λ s. notice_count s a u < classic_size l.size) (sym (insert_known notices_total notices_exact l.notices ((b, v), p) e)) (below a u)
      by false e = new e (is_of a u (b, v)) refl

  still_undecided : (l.decided || completes_notices l p b v) ≡ false
  still_undecided = ap (λ d. d || completes_notices l p b v) open_still ∙ not_complete

-- ---- through a member's life

vote_undecided : (f : FastRound) (l : Learner) (p : ℕ) (v : Cut) → fast_decision f p v ≡ None → Undecided f l → Undecided (hear_vote f p v) l
vote_undecided f l p v e k = record { votes = still_below f p v k.votes e; notices = k.notices; decided = k.decided }

notice_undecided : (f : FastRound) (l : Learner) (p : ℕ) (b : Ballot) (v : Cut) → learnt l p b v ≡ None → Undecided f l → Undecided f (after_notice l p b v)
unfolding after_notice
notice_undecided f l p b v e k = record { votes = k.votes; notices = few_all l p b v k.notices k.decided e; decided = still_undecided l p b v k.notices k.decided e }

undecided_step : (acts : List Act) (heard : List Message) (s : MemberState) (a : Option Act) (m : Option Message) (t : MemberState) (d : Option Cut) → Atom acts heard s a m t d → d ≡ None → Undecided s.fast s.learner → Undecided t.fast t.learner
undecided_step acts heard s _ _ _ _ (hears_vote from p v known at) e k = vote_undecided s.fast s.learner p v e k
undecided_step acts heard s _ _ _ _ (casts v own ok) e k = vote_undecided s.fast s.learner _ v e k
undecided_step acts heard s _ _ _ _ (hears_notice from p b v known at) e k = notice_undecided s.fast s.learner p b v e k
undecided_step acts heard s _ _ _ _ (marks x h) e k = k
undecided_step acts heard s _ _ _ _ x e k = k

pub lives_undecided : (c : Configuration) (me : Process) (acts : List Act) (heard : List Message) (s : MemberState) (d : Option Cut) → Lives c me acts heard s d → d ≡ None → Undecided s.fast s.learner
unfolding fresh_member
lives_undecided c me _ _ _ _ (enters k at) e =
    record {
      votes = λ v. none_yet _ (Rattle.std.specs.Prelude.length c.members) (ap (λ o. unwrap_or o 0) (map.get-empty cut_cmp v));
      notices = λ b v. few_yet _ (Rattle.std.specs.Prelude.length c.members) (no_notices b v);
      decided = refl;
    }
  where
    none_yet : (m n : ℕ) → m ≡ 0 → m < fast_size n
    none_yet m n h = omega arith

    few_yet : (m n : ℕ) → m ≡ 0 → m < classic_size n
    few_yet m n h = omega arith
lives_undecided c me _ _ _ _ (does acts heard s a m t d l x) e = undecided_step acts heard s a m t d x e (lives_undecided c me acts heard s None l refl)
lives_undecided c me _ _ _ _ (leaves acts heard s v a l mark) e = cc

-- ---- a member that has heard a decision has left

-- ---- quorums

-- if each of some members passes
count_within : {A : Type 0} (p q : A → Bool) (xs : List A) → ((x : A) → In xs x → p x ≡ true → q x ≡ true) → count_by p xs ≤ count_by q xs
count_within p q [] h = omega arith
count_within p q (x ∷ xs) h = by (count_within p q xs (λ y i. h y (inr i))) (p x) (q x) refl refl
  where
    cp : (b : Bool) → p x ≡ b → count_by p (x ∷ xs) ≡ cond b 1 0 + count_by p xs
    cp b e = count_cons p x xs ∙ ap (λ b. cond b 1 0 + count_by p xs) e

    cq : (b : Bool) → q x ≡ b → count_by q (x ∷ xs) ≡ cond b 1 0 + count_by q xs
    cq b e = count_cons q x xs ∙ ap (λ b. cond b 1 0 + count_by q xs) e

    by : count_by p xs ≤ count_by q xs → (a b : Bool) → p x ≡ a → q x ≡ b → count_by p (x ∷ xs) ≤ count_by q (x ∷ xs)
    by rest true true e f = let u = cp true e in let v = cq true f in omega arith
    by rest true false e f = let wrong : false ≡ true = sym f ∙ h x (inl refl) e in cc
    by rest false true e f = let u = cp false e in let v = cq true f in omega arith
    by rest false false e f = let u = cp false e in let v = cq false f in omega arith

-- ---- what a member heard that goes on

module _ (f : Configuration) (es : List MarkedEvent) (are : AreMembers f.members) (apart : NoCollision (run es (founded f))) (me : Process) (s : MemberState) (heard : List Message)
    (life : Lives s.config me (acts_at (run es (founded f)).log me s.config) heard s None) (sync : heard ≡ taken_in me (acts_at (run es (founded f)).log me s.config)) (here : WasInstalled (run es (founded f)).log s.config) where
  abbrev c : Configuration
  c = s.config

  abbrev acts : List Act
  acts = acts_at (run es (founded f)).log me s.config

  mine : s.me ≡ me
  mine = lives_me c me acts heard s None life

  distinct : Distinct c.members
  distinct = installed_distinct f es are c here

  -- what was taken was heard
  was_heard : (p : Process) (b : Rattle.rapid_model.specs.Message.Body) → Received (run es (founded f)) me c p b → In heard (message p b)
  was_heard p b h = subst (λ l. In l (message p b)) (sym sync) (in_from (received (run es (founded f)) me c) (message p b) h)

  known_sent : (p : Process) (b : Rattle.rapid_model.specs.Message.Body) → Known acts s p b → Sent (run es (founded f)) p b
  known_sent p b k = received_were_said f es me c p b (contains_from (received (run es (founded f)) me c) (message p b) (subst (λ q. In (taken_in q acts) (message p b)) mine k))

  -- a member whose vote was heard is among those that are counted for it
  voter : (v : Cut) (a : Process) → In c.members a → Received (run es (founded f)) me c a (FastVote (configuration_id c) v) → says_it (λ u. same_cut u v) (lives_votes c me acts heard s None life).votes a ≡ true
  voter v a member h =
      let k = lives_votes c me acts heard s None life in
      let at = position_in a c.members (among_is c.members a member) in
      let counted = (lives_hearing c me acts heard s None life refl).votes a v at.0 (was_heard a _ h) at.1 in
      let r = k.voter at.0 counted in
      let who : r.0.0 ≡ a = one_place r.0.0 a c.members at.0 r.2 at.1 in
      let sent_it : Sent (run es (founded f)) a (FastVote (configuration_id c) r.0.1) = subst (λ p. Sent (run es (founded f)) p (FastVote (configuration_id c) r.0.1)) who (known_sent r.0.0 _ (k.known r.0 r.1)) in
      let same : r.0.1 ≡ v = (installed_keeps_rules f es are apart c here).votes_once a fast_ballot r.0.1 v (inl (refl, sent_it)) (inl (refl, received_were_said f es me c a _ h)) in
      subst (λ p. says_it (λ u. same_cut u v) k.votes p ≡ true) who (says_so (λ u. same_cut u v) k.votes r.0 r.1 ((same_cut_decides r.0.1 v).1 same))

  no_fast : (v : Cut) (quorum : Process → Bool) → IsFast c.members quorum → HeardFromEach (run es (founded f)) me c quorum (FastVote (configuration_id c) v) → ⊥
  no_fast v quorum enough each =
      let k = lives_votes c me acts heard s None life in
      let some = count_within quorum (says_it (λ u. same_cut u v) k.votes) c.members (λ a i h. voter v a i (each a (contains_from c.members a i) h)) in
      let few = backed_by (λ u. same_cut u v) c.members distinct k.votes in
      let below = (lives_undecided c me acts heard s None life refl).votes v in
      omega (arith, enough, some, few, (k.counts v), (subst (λ n. count_of s.fast.counts v < fast_size n) k.size below))

  giver : (b : Ballot) (v : Cut) (a : Process) → In c.members a → Received (run es (founded f)) me c a (Accepted (configuration_id c) b v) → says_it (is_of b v) (lives_notices c me acts heard s None life).notes a ≡ true
  giver b v a member h =
      let k = lives_notices c me acts heard s None life in
      let at = position_in a c.members (among_is c.members a member) in
      let counted = (lives_hearing c me acts heard s None life refl).notices a b v at.0 (was_heard a _ h) at.1 in
      let r = k.giver (b, v) at.0 counted in
      let who : r.0 ≡ a = one_place r.0 a c.members at.0 r.2 at.1 in
      subst (λ p. says_it (is_of b v) k.notes p ≡ true) who (says_so (is_of b v) k.notes (r.0, (b, v)) r.1 (itself b v))
    where
      itself : (b : Ballot) (v : Cut) → is_of b v (b, v) ≡ true
      itself b v = Rattle.std.proofs.lemmas.Bool.and_from _ _ ((Rattle.rapid_model.proofs.Orders.ballots_decided b b).1 refl) ((same_cut_decides v v).1 refl)

  no_classic : (b : Ballot) (v : Cut) (quorum : Process → Bool) → IsClassic c.members quorum → HeardFromEach (run es (founded f)) me c quorum (Accepted (configuration_id c) b v) → ⊥
  no_classic b v quorum enough each =
      let k = lives_notices c me acts heard s None life in
      let some = count_within quorum (says_it (is_of b v) k.notes) c.members (λ a i h. giver b v a i (each a (contains_from c.members a i) h)) in
      let few = backed_by (is_of b v) c.members distinct k.notes in
      let below = (lives_undecided c me acts heard s None life refl).notices b v in
      omega (arith, enough, some, few, (k.counts b v), (subst (λ n. notice_count s.learner.notices b v < classic_size n) k.size below))

  -- it heard no decision
  pub none_heard : HeardDecision (run es (founded f)) me c → ⊥
  none_heard (by_votes v quorum enough each) = no_fast v quorum enough each
  none_heard (by_notices v b quorum enough each) = no_classic b v quorum enough each
  none_heard (by_message v p h) = (lives_hearing c me acts heard s None life refl).decision p v (was_heard p _ h)

-- ---- in every run

pub decisions_are_prompt : (f : Configuration) (es : List MarkedEvent) → AreMembers f.members → NoCollision (run es (founded f)) → Prompt (run es (founded f))
decisions_are_prompt f es are apart p c there h running member =
    let w = run es (founded f) in
    let at : StandsAt w there.0 p = slice_get-get_or w.peers there.0 p there.1 ∙ ap Some there.2 in
    by at p.node.phase refl
  where
    by : StandsAt (run es (founded f)) there.0 p → (ph : Phase) → p.node.phase ≡ ph → ⊥
    by at (Member s) is =
        let w = run es (founded f) in
        let m = now_member w (lived_run f es are) there.0 p s at is in
        let same : c ≡ s.config = same_Some _ _ (sym member ∙ ap member_config is) in
        let r = (present_run f es are).now there.0 p s.config at (ap member_config is) in
        none_heard f es are apart p.node.me s m.heard m.life m.sync (was_installed w.log p.node.me s.config r) (subst (HeardDecision w p.node.me) same h)
    by at ph is = let wrong : None ≡ Some c = sym (ap member_config is) ∙ member in absurd (cc)
