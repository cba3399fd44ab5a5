-- How a member's votes, its promises and its acceptor hang together.
use Rattle.std.proofs.Common.{◌≡◌, ◌⊎◌, inl, inr, Bool, true, false, cond, ◌||◌, List, [], ◌∷◌, ◌++◌, refl, sym, ap, subst, ◌∙◌, Option, Some, None, append-nil, not, ℕ}
use Rattle.rapid_safety.proofs.Basics.{is_some, filter_map, Ok, Err, Result, cons_option, filter_map-append, and_parts, not-true, true_from_ne_false, or-false, or-true, In, in_split, in_left, in_right, in_from, ballots_decided, from_trans, from_itself, from_above, UpTo-from, Before-antisym}
use Rattle.rapid_safety.proofs.Values.{Process, Cut, Configuration, configuration_id, Alert, Observers, Message, Body, FastVote, Accepted, Promise, Ballot, Vote, fast_ballot, is_below}
use Rattle.rapid_safety.proofs.Parts.{cut_of, Detector, after_batch, batch_cut, direct_after, Acceptor, AcceptorRefusal, Promised, has_voted_at, accepts, after_accept, promise_answer, after_promise}
use Rattle.rapid_safety.proofs.Working.{Destination, To, Others, Itself, MemberState, Says, Proposes, fresh_member, current_id}
use Rattle.rapid_safety.proofs.Worlds.{World, Act, Did, Entry, first_of, proposed_by, taken_by, SaidIn, VotesOnce}
use Rattle.rapid_model.proofs.Acceptors.{accepts-is}
use Rattle.rapid_safety.proofs.Atoms.{push, taken_in, IsMark, IsAside, Atom, marks, votes_again, hears_batch, proposes, casts, Lives, enters, does, leaves, lives_config, promises, accepts_cut}
use Rattle.rapid_safety.proofs.Histories.{acts_at, PastLife, was_not, was, Lived}
use Rattle.std.proofs.lemmas.Option.{same_Some}

-- it was said, to somebody
abbrev pub Said : List Act → Body → Type 0
Said acts b = (to : Destination) × In acts (Did (Says to b))

pub in_push : {A : Type 0} (xs : List A) (o : Option A) (x : A) → In (push xs o) x → In xs x ⊎ (o ≡ Some x)
in_push xs None x h = inl h
in_push xs (Some y) x h = elim (in_split xs (y ∷ []) x h) [ inl a ↦ inl a | inr a ↦ elim a [ inl e ↦ inr (ap Some e) | inr n ↦ absurd n ] ]

pub said_push : (acts : List Act) (o : Option Act) (b : Body) → Said (push acts o) b → Said acts b ⊎ ((to : Destination) × (o ≡ Some (Did (Says to b))))
said_push acts o b h = elim (in_push acts o (Did (Says h.0 b)) h.1) [ inl a ↦ inl (h.0, a) | inr e ↦ inr (h.0, e) ]

-- the body of what is said, if something is
abbrev pub body_of : Option Act → Option Body
body_of (Some (Did (Says to b))) = Some b
body_of x = None

pub said_body : (acts : List Act) (o : Option Act) (b : Body) → Said (push acts o) b → Said acts b ⊎ (body_of o ≡ Some b)
said_body acts o b h = elim (said_push acts o b h) [ inl a ↦ inl a | inr e ↦ inr (ap body_of e.1) ]

-- a mark says only what is aside
pub mark_body : (a : Act) (b : Body) → IsMark a → body_of (Some a) ≡ Some b → IsAside b
mark_body (Did (Says (To e) c)) b h is = let same : c ≡ b = cc in subst IsAside same h
mark_body (Did (Says Others c)) b h is = absurd h
mark_body (Did (Says Itself c)) b h is = absurd h
mark_body (Did (Proposes v)) b h is = cc
mark_body x b h is = cc

-- ---- a cut is proposed once, and a fast vote is for it

-- the detector is closed exactly if there is a proposal
pub batch_open : (t : Observers) (d : Detector) (xs : List Alert) (o : Option Cut) → batch_cut t d xs ≡ o → is_some o ≡ true → d.closed ≡ false
unfolding batch_cut
batch_open t d xs o e s = by d.closed refl e
  where
    by : (b : Bool) → d.closed ≡ b → cond b None (cut_of t (direct_after t d xs)) ≡ o → d.closed ≡ false
    by true is h = let wrong : is_some o ≡ false = ap is_some (sym h) in let w : true ≡ false = sym s ∙ wrong in cc
    by false is h = is

closed_after : (t : Observers) (d : Detector) (xs : List Alert) (o : Option Cut) → batch_cut t d xs ≡ o → (after_batch t d xs).closed ≡ (d.closed || is_some o)
unfolding batch_cut after_batch
closed_after t d xs o e = by d.closed refl e
  where
    by : (b : Bool) → d.closed ≡ b → cond b None (cut_of t (direct_after t d xs)) ≡ o → (b || is_some (cut_of t (direct_after t d xs))) ≡ (b || is_some o)
    by true is h = refl
    by false is h = ap is_some h

pub record VoteKept (acts : List Act) (s : MemberState) : Type 0 where
  pub closes : s.detector.closed ≡ is_some s.proposal
  -- a fast vote is for the proposal, and was cast
  pub for_it : (v : Cut) → Said acts (FastVote (current_id s) v) → (s.voted ≡ true) × (s.proposal ≡ Some v)
  pub cast : s.voted ≡ true → (v : Cut) × (s.proposal ≡ Some v) × Said acts (FastVote (current_id s) v)
  -- the proposal is the first
  pub first : first_of (filter_map proposed_by acts) ≡ s.proposal

pub said_more : (acts : List Act) (o : Option Act) (b : Body) → Said acts b → Said (push acts o) b
said_more acts None b h = h
said_more acts (Some x) b h = (h.0, in_left acts (x ∷ []) _ h.1)

-- what was taken stays taken
pub taken_more : (me : Process) (acts : List Act) (o : Option Act) (m : Message) → In (taken_in me acts) m → In (taken_in me (push acts o)) m
taken_more me acts None m h = h
taken_more me acts (Some x) m h = subst (λ l. In l m) (sym (filter_map-append (taken_by me) acts (x ∷ []))) (in_left (taken_in me acts) _ m h)

-- the cut of what is proposed, if something is
abbrev proposal_of : Option Act → Option Cut
proposal_of None = None
proposal_of (Some x) = proposed_by x

first_push : (acts : List Act) (o : Option Act) → proposal_of o ≡ None → first_of (filter_map proposed_by (push acts o)) ≡ first_of (filter_map proposed_by acts)
first_push acts None e = refl
first_push acts (Some x) e = ap first_of (filter_map-append proposed_by acts (x ∷ []) ∙ ap (λ o. filter_map proposed_by acts ++ cons_option o []) e ∙ append-nil (filter_map proposed_by acts))

vote_same : (acts : List Act) (o : Option Act) (s t : MemberState) → t.detector.closed ≡ s.detector.closed → t.proposal ≡ s.proposal → t.voted ≡ s.voted → t.config ≡ s.config →
    ((v : Cut) → body_of o ≡ Some (FastVote (current_id s) v) → (s.voted ≡ true) × (s.proposal ≡ Some v)) → proposal_of o ≡ None → VoteKept acts s → VoteKept (push acts o) t
vote_same acts o s t closed proposal voted config new none k =
    record {
      closes = closed ∙ k.closes ∙ ap is_some (sym proposal);
      for_it = λ v h.
          let r : (s.voted ≡ true) × (s.proposal ≡ Some v) = elim (said_body acts o (FastVote (configuration_id s.config) v) (subst (λ c. Said (push acts o) (FastVote (configuration_id c) v)) config h)) [ inl a ↦ k.for_it v a | inr e ↦ new v e ] in
          (voted ∙ r.0, proposal ∙ r.1);
      cast = λ h. let r = k.cast (sym voted ∙ h) in (r.0, proposal ∙ r.1, subst (λ c. Said (push acts o) (FastVote (configuration_id c) r.0)) (sym config) (said_more acts o _ r.2));
      first = first_push acts o none ∙ k.first ∙ sym proposal;
    }

mark_none : (a : Act) → IsMark a → proposal_of (Some a) ≡ None
mark_none (Did (Proposes v)) h = absurd h
mark_none (Did (Says to b)) h = refl
mark_none x h = refl

vote_kept : (acts : List Act) (heard : List Message) (s : MemberState) (a : Option Act) (m : Option Message) (t : MemberState) (d : Option Cut) → Atom acts heard s a m t d → VoteKept acts s → VoteKept (push acts a) t
vote_kept acts heard s _ _ _ _ (marks a h) k = vote_same acts (Some a) s s refl refl refl refl (λ v e. absurd (mark_body a _ h e)) (mark_none a h) k
vote_kept acts heard s _ _ _ _ (votes_again v voted own) k = vote_same acts (Some (Did (Says Others (FastVote (current_id s) v)))) s s refl refl refl refl (λ u e. let same : v ≡ u = cc in (voted, own ∙ ap Some same)) refl k
vote_kept acts heard s _ _ _ _ (hears_batch from xs known e) k = vote_same acts None s _ (closed_after _ _ _ None e ∙ or-false s.detector.closed) refl refl refl (λ v h. cc) refl k
vote_kept acts heard s _ _ _ _ (proposes from xs v known e) k =
    let none : s.proposal ≡ None = none_yet s.proposal (sym (k.closes) ∙ batch_open _ _ _ (Some v) e refl) in
    record {
      closes = closed_after _ _ _ (Some v) e ∙ or-true s.detector.closed;
      for_it = λ u h. elim (said_body acts (Some (Did (Proposes v))) _ h) [
        | inl a ↦ (let r = k.for_it u a in let wrong : ◌≡◌ {A = Option Cut} (Some u) None = sym r.1 ∙ none in cc)
        | inr x ↦ cc
      ];
      cast = λ h. let r = k.cast h in let wrong : ◌≡◌ {A = Option Cut} (Some r.0) None = sym r.1 ∙ none in cc;
      first = ap first_of (filter_map-append proposed_by acts (Did (Proposes v) ∷ [])) ∙ first_of_none (filter_map proposed_by acts) v (k.first ∙ none);
    }
  where
    none_yet : (o : Option Cut) → is_some o ≡ false → o ≡ None
    none_yet None h = refl
    none_yet (Some x) h = cc

    first_of_none : (xs : List Cut) (x : Cut) → first_of xs ≡ None → first_of (xs ++ x ∷ []) ≡ Some x
    first_of_none [] x h = refl
    first_of_none (y ∷ ys) x h = cc
vote_kept acts heard s _ _ _ _ (casts v own ok) k =
    let o : Option Act = Some (Did (Says Others (FastVote (current_id s) v))) in
    record {
      closes = k.closes;
      for_it = λ u h. let r : s.proposal ≡ Some u = elim (said_body acts o _ h) [ inl a ↦ (k.for_it u a).1 | inr x ↦ (let same : v ≡ u = cc in own ∙ ap Some same) ] in (refl, r);
      cast = λ h. (v, own, (Others, in_right acts (Did (Says Others (FastVote (current_id s) v)) ∷ []) _ (inl refl)));
      first = first_push acts o refl ∙ k.first;
    }
vote_kept acts heard s a m t d x k = vote_same acts a s t refl refl refl refl (λ u e. cc) refl k

pub lives_vote : (c : Configuration) (me : Process) (acts : List Act) (heard : List Message) (s : MemberState) (d : Option Cut) → Lives c me acts heard s d → VoteKept acts s
unfolding fresh_member
lives_vote c me _ _ _ _ (enters k at) = record { closes = refl; for_it = λ v h. absurd h.1; cast = λ h. cc; first = refl }
lives_vote c me _ _ _ _ (does acts heard s a m t d l x) = vote_kept acts heard s a m t d x (lives_vote c me acts heard s None l)
lives_vote c me _ _ _ _ (leaves acts heard s v a l mark) = vote_same acts (Some a) s s refl refl refl refl (λ u e. absurd (mark_body a _ mark e)) (mark_none a mark) (lives_vote c me acts heard s (Some v) l)

-- ---- in the words of the definitions

pub said_in : (w : World) (c : Configuration) (p : Process) (b : Body) → SaidIn w c p b → Said (acts_at w.log p c) b
said_in w c p b h = (h.0, in_from (acts_at w.log p c) (Did (Says h.0 b)) h.1)

votes_of_life : (log : List Entry) (p : Process) (c : Configuration) (v u : Cut) → PastLife log p c → Said (acts_at log p c) (FastVote (configuration_id c) v) → Said (acts_at log p c) (FastVote (configuration_id c) u) → v ≡ u
votes_of_life log p c v u (was_not none) h g = absurd (subst (λ a. In a (Did (Says h.0 (FastVote (configuration_id c) v)))) none h.1)
votes_of_life log p c v u (was heard s d l) h g =
    let k = lives_vote c p (acts_at log p c) heard s d l in
    let e : c ≡ s.config = sym (lives_config c p (acts_at log p c) heard s d l) in
    let a = k.for_it v (subst (λ x. Said (acts_at log p c) (FastVote (configuration_id x) v)) e h) in
    let b = k.for_it u (subst (λ x. Said (acts_at log p c) (FastVote (configuration_id x) u)) e g) in
    same_Some _ _ (sym a.1 ∙ b.1)

pub votes_once : (w : World) → Lived w → VotesOnce w
votes_once w lived c p v u h g = votes_of_life w.log p c v u (lived.past p c) (said_in w c p _ h) (said_in w c p _ g)

-- ---- how a member's votes, its promises and its acceptor hang together

-- a vote at a ballot stands among the acts
abbrev pub VotedIn : List ℕ → List Act → Ballot → Cut → Type 0
VotedIn id acts b v = ((b ≡ fast_ballot) × Said acts (FastVote id v)) ⊎ Said acts (Accepted id b v)

-- the report is of a vote at the ballot or above
abbrev pub Reaches : Option (Vote Cut) → Ballot → Type 0
Reaches rep a = (x : Vote Cut) × (rep ≡ Some x) × (is_below x.ballot a ≡ false)

pub record AcceptorKept (id : List ℕ) (acts : List Act) (s : Acceptor Cut) : Type 0 where
  -- the last vote is the highest, and was cast
  pub last : (a : Ballot) (v : Cut) → VotedIn id acts a v → Reaches s.last a
  pub cast : (x : Vote Cut) → s.last ≡ Some x → VotedIn id acts x.ballot x.value
  -- it is not above what the acceptor holds
  pub bounded : (x : Vote Cut) → s.last ≡ Some x → is_below s.rnd x.ballot ≡ false
  -- promises are not above what the acceptor holds
  pub held : (b : Ballot) (rep : Option (Vote Cut)) → Said acts (Promise id b rep) → is_below s.rnd b ≡ false
  -- a promise reports the highest vote below it
  pub highest : (b : Ballot) (rep : Option (Vote Cut)) (a : Ballot) (v : Cut) → Said acts (Promise id b rep) → VotedIn id acts a v → is_below a b ≡ true → Reaches rep a
  pub truly : (b : Ballot) (x : Vote Cut) → Said acts (Promise id b (Some x)) → VotedIn id acts x.ballot x.value × (is_below x.ballot b ≡ true)
  -- it votes once a ballot
  pub once : (b : Ballot) (v u : Cut) → VotedIn id acts b v → VotedIn id acts b u → v ≡ u

vote_split : (id : List ℕ) (acts : List Act) (o : Option Act) (a : Ballot) (v : Cut) → VotedIn id (push acts o) a v →
    VotedIn id acts a v ⊎ (((a ≡ fast_ballot) × (body_of o ≡ Some (FastVote id v))) ⊎ (body_of o ≡ Some (Accepted id a v)))
vote_split id acts o a v (inl h) = elim (said_body acts o _ h.1) [ inl k ↦ inl (inl (h.0, k)) | inr k ↦ inr (inl (h.0, k)) ]
vote_split id acts o a v (inr h) = elim (said_body acts o _ h) [ inl k ↦ inl (inr k) | inr k ↦ inr (inr k) ]

vote_more : (id : List ℕ) (acts : List Act) (o : Option Act) (a : Ballot) (v : Cut) → VotedIn id acts a v → VotedIn id (push acts o) a v
vote_more id acts o a v (inl h) = inl (h.0, said_more acts o _ h.1)
vote_more id acts o a v (inr h) = inr (said_more acts o _ h)

-- nothing that is new is a vote or a promise
abbrev IsQuiet : List ℕ → List Act → Option Act → Type 0
IsQuiet id acts o = ((a : Ballot) (v : Cut) → VotedIn id (push acts o) a v → VotedIn id acts a v) × ((b : Ballot) (rep : Option (Vote Cut)) → Said (push acts o) (Promise id b rep) → Said acts (Promise id b rep))

quiet_by : (id : List ℕ) (acts : List Act) (o : Option Act) → ((v : Cut) → body_of o ≡ Some (FastVote id v) → Said acts (FastVote id v)) → ((a : Ballot) (v : Cut) → body_of o ≡ Some (Accepted id a v) → ⊥) → ((b : Ballot) (rep : Option (Vote Cut)) → body_of o ≡ Some (Promise id b rep) → ⊥) → IsQuiet id acts o
quiet_by id acts o f g h = (
  λ a v k. elim (vote_split id acts o a v k) [ inl x ↦ x | inr x ↦ elim x [ inl y ↦ inl (y.0, f v y.1) | inr y ↦ absurd (g a v y) ] ],
  λ b rep k. elim (said_body acts o _ k) [ inl x ↦ x | inr x ↦ absurd (h b rep x) ],
)

quiet_kept : (id : List ℕ) (acts : List Act) (o : Option Act) (s : Acceptor Cut) → IsQuiet id acts o → AcceptorKept id acts s → AcceptorKept id (push acts o) s
quiet_kept id acts o s q k =
    record {
      last = λ a v h. k.last a v (q.0 a v h);
      cast = λ x e. vote_more id acts o _ _ (k.cast x e);
      bounded = k.bounded;
      held = λ b rep h. k.held b rep (q.1 b rep h);
      highest = λ b rep a v h g low. k.highest b rep a v (q.1 b rep h) (q.0 a v g) low;
      truly = λ b x h. let r = k.truly b x (q.1 b (Some x) h) in (vote_more id acts o _ _ r.0, r.1);
      once = λ b v u h g. k.once b v u (q.0 b v h) (q.0 b u g);
    }

level : (a b : Ballot) → is_below a b ≡ false → is_below b a ≡ false → a ≡ b
level a b h k = Before-antisym a b (UpTo-from a b k) (UpTo-from b a h)

-- a vote at b, which the acceptor takes
voted_kept : (id : List ℕ) (acts : List Act) (o : Option Act) (s : Acceptor Cut) (b : Ballot) (u : Cut) → accepts s b ≡ true → VotedIn id (push acts o) b u →
    ((a : Ballot) (v : Cut) → VotedIn id (push acts o) a v → VotedIn id acts a v ⊎ ((a ≡ b) × (v ≡ u))) → ((c : Ballot) (rep : Option (Vote Cut)) → Said (push acts o) (Promise id c rep) → Said acts (Promise id c rep)) →
    AcceptorKept id acts s → AcceptorKept id (push acts o) (after_accept s b u)
unfolding after_accept
voted_kept id acts o s b u ok done new quiet k =
    let parts = and_parts (not (is_below b s.rnd)) (not (has_voted_at b s.last)) (sym (accepts-is s b) ∙ ok) in
    let low : is_below b s.rnd ≡ false = not-true _ parts.0 in
    let vote : Vote Cut = record { ballot = b; value = u } in
    let is : after_accept s b u ≡ record { rnd = b; last = Some vote } = ap (λ t. cond t (record { rnd = b; last = Some vote }) s) ok in
    let none_here : (v : Cut) → VotedIn id acts b v → ⊥ = λ v h.
    let r = k.last b v h in
    let at : r.0.ballot ≡ b = level r.0.ballot b r.2 (from_trans b s.rnd r.0.ballot low (k.bounded r.0 r.1)) in
    let yes_voted : has_voted_at b s.last ≡ true = ap (has_voted_at b) r.1 ∙ (ballots_decided r.0.ballot b).1 at in
    let no_vote : has_voted_at b s.last ≡ false = not-true _ parts.1 in
    let wrong : true ≡ false = sym yes_voted ∙ no_vote in cc in
    subst (λ (a : Acceptor Cut). AcceptorKept id (push acts o) a) (sym is)
    (record {
      last = λ a v h. elim (new a v h) [
        | inl x ↦ let r = k.last a v x in (vote, refl, from_trans b s.rnd a low (from_trans s.rnd r.0.ballot a (k.bounded r.0 r.1) r.2))
        | inr x ↦ (vote, refl, subst (λ z. is_below b z ≡ false) (sym x.0) (from_itself b))
      ];
      cast = λ x e. subst (λ (z : Vote Cut). VotedIn id (push acts o) z.ballot z.value) (same_Some _ _ e) done;
      bounded = λ x e. subst (λ (z : Vote Cut). is_below b z.ballot ≡ false) (same_Some _ _ e) (from_itself b);
      held = λ c rep h. from_trans b s.rnd c low (k.held c rep (quiet c rep h));
      highest = λ c rep a v h g lower. elim (new a v g) [
        | inl x ↦ k.highest c rep a v (quiet c rep h) x lower
        | inr x ↦ (let e : is_below b c ≡ true = subst (λ z. is_below z c ≡ true) x.0 lower in let f = from_trans b s.rnd c low (k.held c rep (quiet c rep h)) in cc)
      ];
      truly = λ c x h. let r = k.truly c x (quiet c (Some x) h) in (vote_more id acts o _ _ r.0, r.1);
      once = λ a v w h g. elim (new a v h) [
        | inl x ↦ elim (new a w g) [ inl y ↦ k.once a v w x y | inr y ↦ absurd (none_here v (subst (λ z. VotedIn id acts z v) y.0 x)) ]
        | inr x ↦ elim (new a w g) [ inl y ↦ absurd (none_here w (subst (λ z. VotedIn id acts z w) x.0 y)) | inr y ↦ x.1 ∙ sym y.1 ]
      ];
    })

-- a promise is given only above what the acceptor holds, and of its vote
given : (s : Acceptor Cut) (b : Ballot) (rep : Option (Vote Cut)) → promise_answer s b ≡ Ok rep → (is_below s.rnd b ≡ true) × (s.last ≡ rep)
unfolding promise_answer
given s b rep h = by (is_below s.rnd b) refl h
  where
    by : (t : Bool) → is_below s.rnd b ≡ t → ◌≡◌ {A = Result (Option (Vote Cut)) AcceptorRefusal} (cond t (Ok s.last) (Err (Promised s.rnd))) (Ok rep) → (is_below s.rnd b ≡ true) × (s.last ≡ rep)
    by true e k = (e, cc)
    by false e k = cc

promised_kept : (id : List ℕ) (acts : List Act) (s : Acceptor Cut) (to : Destination) (b : Ballot) (rep : Option (Vote Cut)) → promise_answer s b ≡ Ok rep →
    AcceptorKept id acts s → AcceptorKept id (acts ++ Did (Says to (Promise id b rep)) ∷ []) (after_promise s b)
unfolding after_promise
promised_kept id acts s to b rep h k =
    let o : Option Act = Some (Did (Says to (Promise id b rep))) in
    let g = given s b rep h in
    let is : after_promise s b ≡ record { rnd = b; last = s.last } = ap (λ t. cond t (record { rnd = b; last = s.last }) s) g.0 in
    let up : is_below b s.rnd ≡ false = from_above b s.rnd g.0 in
    let old : (a : Ballot) (v : Cut) → VotedIn id (push acts o) a v → VotedIn id acts a v = λ a v q. elim (vote_split id acts o a v q) [ inl x ↦ x | inr x ↦ absurd (no_vote a v x) ] in
    subst (λ (a : Acceptor Cut). AcceptorKept id (push acts o) a) (sym is)
    (record {
      last = λ a v q. k.last a v (old a v q);
      cast = λ x e. vote_more id acts o _ _ (k.cast x e);
      bounded = λ x e. from_trans b s.rnd x.ballot up (k.bounded x e);
      held = λ c r q. elim (said_body acts o _ q) [
        | inl x ↦ from_trans b s.rnd c up (k.held c r x)
        | inr x ↦ (let e : b ≡ c = cc in subst (λ z. is_below b z ≡ false) e (from_itself b))
      ];
      highest = λ c r a v q w low. elim (said_body acts o _ q) [
        | inl x ↦ k.highest c r a v x (old a v w) low
        | inr x ↦ (let e : rep ≡ r = cc in let t = k.last a v (old a v w) in (t.0, sym e ∙ sym g.1 ∙ t.1, t.2))
      ];
      truly = λ c x q. elim (said_body acts o _ q) [
        | inl y ↦ let r = k.truly c x y in (vote_more id acts o _ _ r.0, r.1)
        | inr y ↦ (
            let e : rep ≡ Some x = cc in
            let f : b ≡ c = cc in
            let at : s.last ≡ Some x = g.1 ∙ e in
            (vote_more id acts o _ _ (k.cast x at), subst (λ z. is_below x.ballot z ≡ true) f (below_of x.ballot s.rnd b (k.bounded x at) g.0))
            )
      ];
      once = λ a v u q w. k.once a v u (old a v q) (old a u w);
    })
  where
    no_vote : (a : Ballot) (v : Cut) → ((a ≡ fast_ballot) × (Some (Promise id b rep) ≡ Some (FastVote id v))) ⊎ (Some (Promise id b rep) ≡ Some (Accepted id a v)) → ⊥
    no_vote a v (inl e) = let f = e.1 in cc
    no_vote a v (inr e) = cc

    below_of : (x r b : Ballot) → is_below r x ≡ false → is_below r b ≡ true → is_below x b ≡ true
    below_of x r b h g = true_from_ne_false _ (λ e. let f = from_trans r x b h e in let wrong : true ≡ false = sym g ∙ f in cc)

-- ---- through a member's life

atom_kept : (acts : List Act) (heard : List Message) (s : MemberState) (a : Option Act) (m : Option Message) (t : MemberState) (d : Option Cut) → Atom acts heard s a m t d → VoteKept acts s →
    AcceptorKept (current_id s) acts s.acceptor → AcceptorKept (current_id t) (push acts a) t.acceptor
atom_kept acts heard s _ _ _ _ (marks a h) v k = quiet_kept (current_id s) acts (Some a) s.acceptor (quiet_by (current_id s) acts (Some a) (λ u e. absurd (mark_body a _ h e)) (λ b u e. mark_body a _ h e) (λ b r e. mark_body a _ h e)) k
atom_kept acts heard s _ _ _ _ (votes_again u voted own) v k =
    let o : Option Act = Some (Did (Says Others (FastVote (current_id s) u))) in
    let c = v.cast voted in
    let same : c.0 ≡ u = same_Some _ _ (sym c.1 ∙ own) in
    quiet_kept (current_id s) acts o s.acceptor
    (quiet_by (current_id s) acts o (λ z e. let is : u ≡ z = cc in subst (λ y. Said acts (FastVote (current_id s) y)) (same ∙ is) c.2) (λ b z e. cc) (λ b r e. cc)) k
atom_kept acts heard s _ _ _ _ (casts u own ok) v k =
    let o : Option Act = Some (Did (Says Others (FastVote (current_id s) u))) in
    voted_kept (current_id s) acts o s.acceptor fast_ballot u ok (inl (refl, (Others, in_right acts (Did (Says Others (FastVote (current_id s) u)) ∷ []) _ (inl refl))))
    (λ a z h. elim (vote_split (current_id s) acts o a z h) [ inl x ↦ inl x | inr x ↦ inr (this a z x) ])
    (λ c r h. elim (said_body acts o _ h) [ inl x ↦ x | inr x ↦ absurd (cc) ]) k
  where
    this : (a : Ballot) (z : Cut) → ((a ≡ fast_ballot) × (Some (FastVote (current_id s) u) ≡ Some (FastVote (current_id s) z))) ⊎ (Some (FastVote (current_id s) u) ≡ Some (Accepted (current_id s) a z)) → (a ≡ fast_ballot) × (z ≡ u)
    this a z (inl e) = let f = e.1 in let same : u ≡ z = cc in (e.0, sym same)
    this a z (inr e) = absurd (cc)
atom_kept acts heard s _ _ _ _ (promises from to b vote known goes e) v k = promised_kept (current_id s) acts s.acceptor to b vote e k
atom_kept acts heard s _ _ _ _ (accepts_cut from b u known ok) v k =
    let o : Option Act = Some (Did (Says Others (Accepted (current_id s) b u))) in
    voted_kept (current_id s) acts o s.acceptor b u ok (inr (Others, in_right acts (Did (Says Others (Accepted (current_id s) b u)) ∷ []) _ (inl refl)))
    (λ a z h. elim (vote_split (current_id s) acts o a z h) [ inl x ↦ inl x | inr x ↦ inr (this a z x) ])
    (λ c r h. elim (said_body acts o _ h) [ inl x ↦ x | inr x ↦ absurd (cc) ]) k
  where
    this : (a : Ballot) (z : Cut) → ((a ≡ fast_ballot) × (Some (Accepted (current_id s) b u) ≡ Some (FastVote (current_id s) z))) ⊎ (Some (Accepted (current_id s) b u) ≡ Some (Accepted (current_id s) a z)) → (a ≡ b) × (z ≡ u)
    this a z (inl e) = let f = e.1 in absurd (cc)
    this a z (inr e) = let one : b ≡ a = cc in let two : u ≡ z = cc in (sym one, sym two)
atom_kept acts heard s a m t d x v k = quiet_kept (current_id s) acts a s.acceptor (quiet_by (current_id s) acts a (λ u e. absurd (cc)) (λ b u e. cc) (λ b r e. cc)) k

pub lives_acceptor : (c : Configuration) (me : Process) (acts : List Act) (heard : List Message) (s : MemberState) (d : Option Cut) → Lives c me acts heard s d → AcceptorKept (current_id s) acts s.acceptor
unfolding fresh_member
lives_acceptor c me _ _ _ _ (enters k at) =
    record {
      last = λ a v h. absurd (none a v h);
      cast = λ x e. absurd (cc);
      bounded = λ x e. cc;
      held = λ b rep h. absurd h.1;
      highest = λ b rep a v h g low. absurd h.1;
      truly = λ b x h. absurd h.1;
      once = λ b v u h g. absurd (none b v h);
    }
  where
    none : (a : Ballot) (v : Cut) → VotedIn (configuration_id c) [] a v → ⊥
    none a v (inl h) = h.1.1
    none a v (inr h) = h.1
lives_acceptor c me _ _ _ _ (does acts heard s a m t d l x) = atom_kept acts heard s a m t d x (lives_vote c me acts heard s None l) (lives_acceptor c me acts heard s None l)
lives_acceptor c me _ _ _ _ (leaves acts heard s v a l mark) =
    quiet_kept (current_id s) acts (Some a) s.acceptor (quiet_by (current_id s) acts (Some a) (λ u e. absurd (mark_body a _ mark e)) (λ b u e. mark_body a _ mark e) (λ b r e. mark_body a _ mark e)) (lives_acceptor c me acts heard s (Some v) l)
