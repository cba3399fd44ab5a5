-- In every configuration that was installed the rules of Fast Paxos are kept, and so one cut is chosen.
use Rattle.std.proofs.Common.{◌≡◌, ◌≢◌, ◌<◌, inl, inr, ℕ, List, [], ◌∷◌, ◌++◌, map, refl, sym, ap, subst, subst₂, ◌∙◌, Option, Some, None, length, unwrap_or}
use Rattle.rapid_safety.proofs.Basics.{Contains, position-Some, In, in_split, in_left, in_right, in_from, contains_from, UpTo-from, Before-irrefl}
use Rattle.rapid_safety.proofs.Values.{Process, same_bytes, Cut, Configuration, configuration_id, position_of, AreMembers, Ballot, Vote, Before, UpTo, fast_ballot, Body, FastVote, Promise, Accept, Accepted, caught_up_by}
use Rattle.rapid_safety.proofs.Parts.{accept_cut}
use Rattle.rapid_safety.proofs.Worlds.{IsLastVote, MayAccept, KeepsRules, VotesOwn, World, Did, Entry, Installed, MarkedEvent, Sent, sent, proposed, acts_in, Voted, said_about, NoCollision, world_step, run, founded, AcceptsLawful, OneChosen, AcceptsExclude}
use Rattle.rapid_safety.proofs.Working.{Says, place}
use Rattle.rapid_model.specs.RunFacts as facts
use Rattle.rapid_agreement.specs.Asking.{Report, AreGiven}
use Rattle.rapid_agreement.proofs.Asking.{asks_lawfully}
use Rattle.rapid_agreement.proofs.Safety.{one_chosen, asked_excludes}
use Rattle.rapid_safety.proofs.Atoms.{message, IsAside, taken_in, lives_member}
use Rattle.rapid_safety.proofs.Histories.{acts_at, Lived}
use Rattle.rapid_safety.proofs.Voting.{Said, lives_vote, VotedIn, AcceptorKept, lives_acceptor}
use Rattle.rapid_safety.proofs.Members.{Distinct, member_at, one_place, position_in, places_are, of_map}
use Rattle.rapid_safety.proofs.Asking.{Given, report_of, IsGiven, Grounds, LifeIn, life_of, asks_of, asked_once}
use Rattle.rapid_safety.proofs.News.{TookSaid, from_acts, known_said, SaidIn, sent_said, said_sent, took_said, said_more}
use Rattle.rapid_safety.proofs.Speaking.{Asides, lives_words, spoken, above_fast, asides_run}
use Rattle.rapid_safety.proofs.Lived.{lived_run}
use Rattle.rapid_safety.proofs.Nodes.{WasInstalled, was_installed}
use Rattle.rapid_safety.proofs.Told.{present_run}
use Rattle.rapid_safety.proofs.Steps.{steps, log_grows}
use Rattle.rapid_safety.proofs.Descent.{installed_distinct}
use Rattle.rapid_model.proofs.Among.{among_is}
use Rattle.std.proofs.lemmas.Option.{same_Some}

-- each configuration in which somebody did something was installed
abbrev pub AtInstalled : World → Type 0
AtInstalled w = (e : Entry) (c : Configuration) → In w.log e → e.at ≡ Some c → (f : Entry) × In w.log f × (f.act ≡ Installed c)

module _ (w : World) (lived : Lived w) (took : TookSaid w) (asides : Asides w) (at_installed : AtInstalled w) (apart : NoCollision w) (c : Configuration) (f : Entry) (f_in : In w.log f) (f_is : f.act ≡ Installed c) where
  abbrev id : List ℕ
  id = configuration_id c

  -- what is said about the configuration is said in it
  pub said_here : (p : Process) (b : Body) → SaidIn w.log p b → (IsAside b → ⊥) → caught_up_by b ≡ Some id → Said (acts_at w.log p c) b
  said_here p b s off about =
      let k = spoken w lived asides p b s off in
      let e = from_acts w.log p k.config (Did (Says k.said.0 b)) k.said.1 in
      let g = at_installed e.0 k.config e.1 e.3 in
      subst (λ z. Said (acts_at w.log p z) b) (apart g.0 f k.config c (contains_from w.log g.0 g.1) (contains_from w.log f f_in) g.2 f_is (same_Some _ _ (sym k.about ∙ about))) k.said

  sent_here : (p : Process) (b : Body) → Sent w p b → (IsAside b → ⊥) → caught_up_by b ≡ Some id → Said (acts_at w.log p c) b
  sent_here p b h = said_here p b (sent_said w.log p b (in_from (sent w) (message p b) h))

  here_sent : (p : Process) (b : Body) → Said (acts_at w.log p c) b → Sent w p b
  here_sent p b h = let r = from_acts w.log p c (Did (Says h.0 b)) h.1 in said_sent w p b (r.0, h.0, r.1, r.2, r.4)

  life : (p : Process) (b : Body) → Said (acts_at w.log p c) b → LifeIn w.log p c
  life p b h = life_of w.log p c b (lived.past p c) h

  -- the acceptor of who said something
  acceptor : (p : Process) (l : LifeIn w.log p c) → AcceptorKept id (acts_at w.log p c) l.state.acceptor
  acceptor p l = subst (λ x. AcceptorKept (configuration_id x) (acts_at w.log p c) l.state.acceptor) (sym l.config) (lives_acceptor c p _ l.heard l.state l.decided l.life)

  is_member : (p : Process) (l : LifeIn w.log p c) → Contains c.members p
  is_member p l = let k = lives_member c p _ l.heard l.state l.decided l.life in contains_from c.members p (member_at p c.members k.0 k.1)

  proposal_here : (p : Process) (l : LifeIn w.log p c) (v : Cut) → l.state.proposal ≡ Some v → proposed w p c ≡ Some v
  proposal_here p l v e = (lives_vote c p _ l.heard l.state l.decided l.life).first ∙ e

  fast_here : (p : Process) (v : Cut) → Said (acts_at w.log p c) (FastVote id v) → proposed w p c ≡ Some v
  fast_here p v h =
      let l = life p _ h in
      proposal_here p l v ((lives_vote c p _ l.heard l.state l.decided l.life).for_it v (subst (λ x. Said (acts_at w.log p c) (FastVote (configuration_id x) v)) l.config h)).1

  -- what was taken there was said there
  taken_here : (p q : Process) (b : Body) → In (taken_in p (acts_at w.log p c)) (message q b) → (IsAside b → ⊥) → caught_up_by b ≡ Some id → Said (acts_at w.log q c) b
  taken_here p q b k off about = said_here q b (known_said w took p q c b k) off about

  asked_above : (p : Process) (b : Ballot) (v : Cut) → Said (acts_at w.log p c) (Accept id b v) → Before fast_ballot b
  asked_above p b v h = above_fast b ((asks_of w.log p c (life p _ h)).asked b v h).from_two

  -- a cut that is accepted was asked for
  accepted_asked : (p : Process) (b : Ballot) (v : Cut) → Said (acts_at w.log p c) (Accepted id b v) → (q : Process) × Said (acts_at w.log q c) (Accept id b v)
  accepted_asked p b v h =
      let l = life p _ h in
      let r = (lives_words c p _ l.heard l.state l.decided l.life).asked b v (subst (λ x. Said (acts_at w.log p c) (Accepted (configuration_id x) b v)) l.config h) in
      (r.0, taken_here p r.0 (Accept id b v) (subst₂ (λ x q. In (taken_in q (acts_at w.log p c)) (message r.0 (Accept (configuration_id x) b v))) (sym l.config) (sym l.me) r.1) (λ z. z) refl)

  -- ---- votes

  voted_in : (p : Process) (b : Ballot) (v : Cut) → Voted w c p b v → VotedIn id (acts_at w.log p c) b v
  voted_in p b v (inl h) = inl (h.0, sent_here p _ h.1 (λ z. z) refl)
  voted_in p b v (inr h) = inr (sent_here p _ h.1 (λ z. z) refl)

  in_voted : (p : Process) (b : Ballot) (v : Cut) → VotedIn id (acts_at w.log p c) b v → Voted w c p b v
  in_voted p b v (inl h) = inl (h.0, here_sent p _ h.1)
  in_voted p b v (inr h) = let a = accepted_asked p b v h in inr (asked_above a.0 b v a.1, here_sent p _ h)

  life_voted : (p : Process) (b : Ballot) (v : Cut) → VotedIn id (acts_at w.log p c) b v → LifeIn w.log p c
  life_voted p b v (inl h) = life p _ h.1
  life_voted p b v (inr h) = life p _ h

  last_vote : (p : Process) (b : Ballot) (r : Option (Vote Cut)) → Said (acts_at w.log p c) (Promise id b r) → IsLastVote (said_about w c) p b r
  last_vote p b None h = λ a v vote low. let x = (acceptor p (life p _ h)).highest b None a v h (voted_in p a v vote) low in let z = x.1 in cc
  last_vote p b (Some x) h =
      let k = acceptor p (life p _ h) in
      let t = k.truly b x h in
      (in_voted p x.ballot x.value t.0, t.1, λ a v vote low. let r = k.highest b (Some x) a v h (voted_in p a v vote) low in let same : x ≡ r.0 = cc in subst (λ (z : Vote Cut). UpTo a z.ballot) (sym same) (UpTo-from a r.0.ballot r.2))

  asked_same : (p q : Process) (b : Ballot) (v u : Cut) → Said (acts_at w.log p c) (Accept id b v) → Said (acts_at w.log q c) (Accept id b u) → v ≡ u
  asked_same p q b v u h g = asked_once w.log p q c b v u (life p _ h) (life q _ g) h g

  -- at the fast ballot a member votes for its proposal
  pub votes_own : VotesOwn (said_about w c)
  votes_own a v (inl h) = fast_here a v (sent_here a _ h.1 (λ z. z) refl)
  votes_own a v (inr h) = absurd (Before-irrefl fast_ballot h.0)

  -- ---- a coordinator's value

  module _ (distinct : Distinct c.members) (p : Process) (b : Ballot) (v : Cut) (h : Said (acts_at w.log p c) (Accept id b v)) where
    l : LifeIn w.log p c
    l = life p _ h

    g : Grounds c p (acts_at w.log p c) l.state.proposal b v
    g = ((asks_of w.log p c l).asked b v h).grounds

    -- the promises that it heard
    all : List Given
    all = g.heard.given ++ g.last ∷ []

    all_known : (x : Given) → In all x → IsGiven c p (acts_at w.log p c) b x
    unfolding all
    all_known x i = elim (in_split g.heard.given (g.last ∷ []) x i) [ inl j ↦ g.heard.known x j | inr j ↦ elim j [ inl e ↦ subst (IsGiven c p (acts_at w.log p c) b) e g.known | inr n ↦ absurd n ] ]

    counted : List Report
    counted = map (report_of c) g.heard.given ++ report_of c g.last ∷ []

    of_counted : (x : Report) → Contains counted x → (y : Given) × In all y × (report_of c y ≡ x)
    unfolding all counted
    of_counted x i =
        elim (in_split (map (report_of c) g.heard.given) (report_of c g.last ∷ []) x (in_from counted x i)) [
          | inl j ↦ let r = of_map (report_of c) g.heard.given x j in (r.0, in_left g.heard.given _ r.0 r.1, r.2)
          | inr j ↦ elim j [ inl e ↦ (g.last, in_right g.heard.given (g.last ∷ []) g.last (inl refl), e) | inr n ↦ absurd n ]
        ]

    promise_of : (x : Given) → In all x → Said (acts_at w.log x.0 c) (Promise id b x.1)
    promise_of x i = taken_here p x.0 (Promise id b x.1) (all_known x i).0 (λ z. z) refl

    -- a vote that is reported was cast
    voter : (q : ℕ) (at : Ballot) (u : Cut) → Contains counted (q, Some (record { ballot = at; value = u })) → (a : Process) × Contains c.members a × VotedIn id (acts_at w.log a c) at u
    voter q at u i =
        let r = of_counted _ i in
        let vote : Vote Cut = record { ballot = at; value = u } in
        let said : Said (acts_at w.log r.0.0 c) (Promise id b (Some vote)) = subst (λ o. Said (acts_at w.log r.0.0 c) (Promise id b o)) (ap (λ (z : Report). z.1) r.2) (promise_of r.0 r.1) in
        (r.0.0, is_member r.0.0 (life r.0.0 _ said), ((acceptor r.0.0 (life r.0.0 _ said)).truly b vote said).0)

    below : (q : Process) (k : ℕ) → position_of c q ≡ Some k → place c q < length c.members
    below q k e = subst (λ n. n < length c.members) (sym (ap (λ o. unwrap_or o 0) e)) (position-Some (same_bytes q) c.members k q e).0

    -- who has the place of a member is it
    same_place : (q a : Process) (k : ℕ) → position_of c q ≡ Some k → Contains c.members a → place c q ≡ place c a → q ≡ a
    same_place q a k e there same =
        let at = position_in a c.members (among_is c.members a (in_from c.members a there)) in
        let here : place c a ≡ at.0 = ap (λ o. unwrap_or o 0) at.1 in
        let mine : place c q ≡ k = ap (λ o. unwrap_or o 0) e in
        one_place q a c.members k e (at.1 ∙ ap Some (sym here ∙ sym same ∙ mine))

    given : AreGiven c.members (place c) (said_about w c) b counted
    given =
        record {
          within = λ x i. let r = of_counted x i in let k = (all_known r.0 r.1).1 in subst (λ n. n < length c.members) (ap (λ (z : Report). z.0) r.2) (below r.0.0 k.0 k.1);
          promised = λ a vote there i. let r = of_counted _ i in let k = (all_known r.0 r.1).1 in
              subst₂ (λ q o. Sent w q (Promise id b o)) (same_place r.0.0 a k.0 k.1 there (ap (λ (z : Report). z.0) r.2)) (ap (λ (z : Report). z.1) r.2) (here_sent r.0.0 _ (promise_of r.0 r.1));
          fast_proposed = λ q u i. let r = voter q fast_ballot u i in (r.0, r.1, elim r.2 [ inl x ↦ fast_here r.0 u x.1 | inr x ↦ let a = accepted_asked r.0 fast_ballot u x in absurd (Before-irrefl fast_ballot (asked_above a.0 fast_ballot u a.1)) ]);
          one_value = λ q o at u x other i j. let y = accepted_at at u other (voter q at u i) in let z = accepted_at at x other (voter o at x j) in asked_same y.0 z.0 at u x y.1 z.1;
        }
      where
        accepted_at : (at : Ballot) (u : Cut) → at ≢ fast_ballot → (a : Process) × Contains c.members a × VotedIn id (acts_at w.log a c) at u → (q : Process) × Said (acts_at w.log q c) (Accept id at u)
        accepted_at at u other r = elim r.2 [ inl x ↦ absurd (other x.0) | inr x ↦ accepted_asked r.0 at u x ]

    may : MayAccept c.members (said_about w c) b v
    unfolding counted
    may =
        let place_in = lives_member c p _ l.heard l.state l.decided l.life in
        let inside : g.heard.start.position < g.heard.start.size = subst₂ (λ m n. m < n) (sym g.heard.position) (sym g.heard.size) (below p place_in.0 place_in.1) in
        asks_lawfully c.members (place c) (said_about w c) g.heard.start b (map (report_of c) g.heard.given) (report_of c g.last) g.choice v (places_are c distinct) g.heard.size inside given
        (λ a u there at e. let mine : p ≡ a = same_place p a place_in.0 place_in.1 there (sym g.heard.position ∙ sym at) in subst (λ q. proposed w q c ≡ Some u) mine (proposal_here p l u (g.mine u e)))
        (subst (λ d. accept_cut d (place c g.last.0) b g.last.1 g.choice ≡ Some v) g.heard.is g.asked)

  -- the rules hold
  pub keeps_rules : Distinct c.members → KeepsRules c.members (said_about w c)
  keeps_rules distinct =
      record {
        votes_once = λ a b v u h g. (acceptor a (life_voted a b v (voted_in a b v h))).once b v u (voted_in a b v h) (voted_in a b u g);
        votes_from_fast = λ a b v h. elim h [ inl x ↦ inl (sym x.0) | inr x ↦ inr x.0 ];
        votes_as_asked = λ a b v h above. elim h [
          | inl x ↦ absurd (Before-irrefl fast_ballot (subst (Before fast_ballot) x.0 above))
          | inr x ↦ let q = accepted_asked a b v (sent_here a _ x.1 (λ z. z) refl) in (q.0, here_sent q.0 _ q.1)
        ];
        reports_last = λ a b r h. last_vote a b r (sent_here a _ h (λ z. z) refl);
        asks_once = λ b v u h g. asked_same h.0 g.0 b v u (sent_here h.0 _ h.1 (λ z. z) refl) (sent_here g.0 _ g.1 (λ z. z) refl);
        asks_lawfully = λ b v h. may distinct h.0 b v (sent_here h.0 _ h.1 (λ z. z) refl);
      }

-- ---- in every configuration that was installed the rules of Fast Paxos are kept, and so one cut is chosen

pub installed_keeps_rules : (c : Configuration) (es : List MarkedEvent) → AreMembers c.members → NoCollision (run es (founded c)) → (d : Configuration) → WasInstalled (run es (founded c)).log d → KeepsRules d.members (said_about (run es (founded c)) d)
installed_keeps_rules c es are apart d h =
    keeps_rules (run es (founded c)) (lived_run c es are) (took_said c es) (asides_run c es) (λ e x i is. was_installed _ e.who x ((present_run c es are).at e x i is)) apart d h.0 h.1 h.2 (installed_distinct c es are d h)

pub installed_votes_own : (c : Configuration) (es : List MarkedEvent) → AreMembers c.members → NoCollision (run es (founded c)) → (d : Configuration) → WasInstalled (run es (founded c)).log d → VotesOwn (said_about (run es (founded c)) d)
installed_votes_own c es are apart d h =
    votes_own (run es (founded c)) (lived_run c es are) (took_said c es) (asides_run c es) (λ e x i is. was_installed _ e.who x ((present_run c es are).at e x i is)) apart d h.0 h.1 h.2

pub one_cut_is_chosen : (c : Configuration) (es : List MarkedEvent) → AreMembers c.members → NoCollision (run es (founded c)) → OneChosen (run es (founded c))
one_cut_is_chosen c es are apart d v u there one other =
    let w = run es (founded c) in
    one_chosen d.members (said_about w d) (installed_keeps_rules c es are apart d (there.1.0, in_from w.log there.1.0 there.1.1, there.1.3)) one.0 other.0 v u one.1 other.1

-- ---- what is said in a configuration

-- who says something in a configuration has installed it, and it was sent
pub said_installed : (c : Configuration) (es : List MarkedEvent) → AreMembers c.members → (d : Configuration) (p : Process) (b : Body) → facts.SaidIn (run es (founded c)) d p b → WasInstalled (run es (founded c)).log d
said_installed c es are d p b h =
    let w = run es (founded c) in
    let r = from_acts w.log p d (Did (Says h.0 b)) (in_from (acts_in w p d) (Did (Says h.0 b)) h.1) in
    was_installed w.log r.0.who d ((present_run c es are).at r.0 d r.1 r.3)

pub said_was_sent : (w : World) (d : Configuration) (p : Process) (b : Body) → facts.SaidIn w d p b → Sent w p b
said_was_sent w d p b h =
    let r = from_acts w.log p d (Did (Says h.0 b)) (in_from (acts_in w p d) (Did (Says h.0 b)) h.1) in
    said_sent w p b (r.0, h.0, r.1, r.2, r.4)

pub accepts_are_lawful : (c : Configuration) (es : List MarkedEvent) → AreMembers c.members → NoCollision (run es (founded c)) → AcceptsLawful (run es (founded c))
accepts_are_lawful c es are apart d p b v h =
    (installed_keeps_rules c es are apart d (said_installed c es are d p (Accept (configuration_id d) b v) h)).asks_lawfully b v (p, said_was_sent (run es (founded c)) d p (Accept (configuration_id d) b v) h)

-- ---- a run that goes on

pub run_on : (es more : List MarkedEvent) (w : World) → run more (run es w) ≡ run (es ++ more) w
run_on [] more w = refl
run_on (e ∷ es) more w = run_on es more (world_step w e)

pub sent_grows : (w v : World) → Rattle.rapid_safety.proofs.Steps.Steps w v → (p : Process) (b : Body) → Sent w p b → Sent v p b
sent_grows w v s p b h =
    let g = log_grows w v s in
    said_sent v p b (subst (λ l. SaidIn l p b) (sym g.1) (said_more w.log g.0 p b (sent_said w.log p b (in_from (sent w) _ h))))

pub sent_lasts : (more : List MarkedEvent) (w : World) (p : Process) (b : Body) → Sent w p b → Sent (run more w) p b
sent_lasts [] w p b h = h
sent_lasts (e ∷ es) w p b h = sent_lasts es (world_step w e) p b (sent_grows w (world_step w e) (steps w e) p b h)

pub installed_lasts : (more : List MarkedEvent) (w : World) (d : Configuration) → WasInstalled w.log d → WasInstalled (run more w).log d
installed_lasts [] w d h = h
installed_lasts (e ∷ es) w d h =
    let g = log_grows w (world_step w e) (steps w e) in
    installed_lasts es (world_step w e) d (h.0, subst (λ l. In l h.0) (sym g.1) (Rattle.rapid_model.proofs.Lists.in_left w.log g.0 h.0 h.1), h.2)

pub accepts_exclude_below : (c : Configuration) (es more : List MarkedEvent) → AreMembers c.members → NoCollision (run more (run es (founded c))) → AcceptsExclude (run es (founded c)) more
accepts_exclude_below c es more are apart d p a b v u h before chosen =
    let w = run es (founded c) in
    let on : run more w ≡ run (es ++ more) (founded c) = run_on es more (founded c) in
    let there : WasInstalled (run more w).log d = installed_lasts more w d (said_installed c es are d p (Accept (configuration_id d) b v) h) in
    let rules : KeepsRules d.members (said_about (run more w) d) =
    subst (λ x. KeepsRules d.members (said_about x d)) (sym on) (installed_keeps_rules c (es ++ more) are (subst NoCollision on apart) d (subst (λ (x : World). WasInstalled x.log d) on there)) in
    asked_excludes d.members (said_about (run more w) d) rules b v (p, sent_lasts more w p (Accept (configuration_id d) b v) (said_was_sent w d p (Accept (configuration_id d) b v) h)) a u before chosen
