-- One cut at most is asked for at a ballot of a configuration.
use Rattle.std.proofs.Common.{◌≡◌, ◌≤◌, ◌<◌, ◌+◌, inl, inr, ℕ, Bool, true, false, max, List, [], ◌∷◌, ◌++◌, map, refl, sym, ap, subst, subst₂, ◌∙◌, Option, Some, None, length, arith, unwrap_or}
use Rattle.rapid_safety.proofs.Basics.{is_some, nat_le, and_parts, not-true, map-append, cond_some, In, in_split, ballots_decided}
use Rattle.std.specs.FinSet as set
use Rattle.rapid_safety.proofs.Values.{Process, Cut, Configuration, configuration_id, position_of, classic_size, Ballot, Vote, Message, Prepare, Promise, Accept}
use Rattle.rapid_safety.proofs.Parts.{Coordinator, last_round, next_round, next_ballot, is_ballot, begun, counts_promise, after_report, accept_cut}
use Rattle.rapid_safety.proofs.Working.{MemberState, Others, Says, Proposes, fresh_member, place, current_id}
use Rattle.rapid_safety.proofs.Worlds.{Act, Did, Entry}
use Rattle.rapid_agreement.specs.Asking.{Report, after_promises}
use Rattle.rapid_agreement.proofs.Promises.{ignored, taken, size_kept}
use Rattle.rapid_agreement.proofs.Asking.{completes}
use Rattle.rapid_safety.proofs.Atoms.{push, message, taken_in, Atom, marks, begins, proposes, hears_promise, asks, Lives, enters, does, leaves, atom_config, atom_me, lives_config, lives_me, lives_placed}
use Rattle.rapid_safety.proofs.Voting.{Said, body_of, said_body, mark_body, batch_open, taken_more, VoteKept, lives_vote}
use Rattle.rapid_safety.proofs.Histories.{acts_at, PastLife, was_not, was}
use Rattle.rapid_safety.proofs.Members.{one_place}

-- a promise, and who gave it
abbrev pub Given : Type 0
Given = Process × Option (Vote Cut)

-- as the coordinator counts it, by place
abbrev pub report_of : Configuration → Given → Report
report_of c g = (place c g.0, g.1)

-- ---- the coordinator's steps

pub new_one : (c : Coordinator) (p : ℕ) (b : Ballot) → counts_promise c p b ≡ true → (c.ballot ≡ Some b) × (set.contains c.heard p ≡ false)
new_one c p b h = let r = and_parts _ _ h in (same_as c.ballot r.0, not-true _ r.1)
  where
    same_as : (o : Option Ballot) → is_ballot o b ≡ true → o ≡ Some b
    same_as None h = cc
    same_as (Some a) h = ap Some ((ballots_decided a b).0 h)

len_new : (s : set.FinSet Rattle.std.specs.Ordering.nat_cmp) (p : ℕ) → set.contains s p ≡ false → set.len (set.insert s p) ≡ set.len s + 1
len_new s p e = Prim.grind (arith, set.members)

-- what a report makes of it
record Reported (c d : Coordinator) : Type 0 where
  pub size : d.size ≡ c.size
  pub position : d.position ≡ c.position
  pub ballot : d.ballot ≡ c.ballot
  pub more : set.len c.heard ≤ set.len d.heard

unchanged : (c : Coordinator) → Reported c c
unchanged c = record { size = refl; position = refl; ballot = refl; more = omega arith }

-- a promise that counts is one more
grown : (c : Coordinator) (p : ℕ) (b : Ballot) (vote : Option (Vote Cut)) → counts_promise c p b ≡ true → set.len (after_report c p b vote).heard ≡ set.len c.heard + 1
grown c p b vote e =
    ap (λ (d : Coordinator). set.len d.heard) (taken c p b vote e) ∙ ap (λ x. set.len x) (size_kept (record c { heard = set.insert c.heard p }) vote).3
    ∙ len_new c.heard p (new_one c p b e).1

reported : (c : Coordinator) (p : ℕ) (b : Ballot) (vote : Option (Vote Cut)) → Reported c (after_report c p b vote)
reported c p b vote = by (counts_promise c p b) refl
  where
    by : (t : Bool) → counts_promise c p b ≡ t → Reported c (after_report c p b vote)
    by false e = subst (Reported c) (sym (ignored c p b vote e)) (unchanged c)
    by true e =
        let same = size_kept (record c { heard = set.insert c.heard p }) vote in
        let one = taken c p b vote e in
        let more = grown c p b vote e in
        record { size = ap (λ (d : Coordinator). d.size) one ∙ same.0; position = ap (λ (d : Coordinator). d.position) one ∙ same.1; ballot = ap (λ (d : Coordinator). d.ballot) one ∙ same.2; more = omega arith }

after_push : (c : Coordinator) (b : Ballot) (xs : List Report) (x : Report) → after_promises c b (xs ++ x ∷ []) ≡ after_report (after_promises c b xs) x.0 b x.1
after_push c b [] x = refl
after_push c b (y ∷ ys) x = after_push (after_report c y.0 b y.1) b ys x

next_is : (c : Coordinator) (above b : Ballot) → next_ballot c above ≡ Some b → (b.round ≡ next_round c above) × (b.position ≡ c.position)
unfolding next_ballot
next_is c above b h =
    let e = (cond_some (nat_le (next_round c above) 250) (record { round = next_round c above; position = c.position }) b h).1 in
    (sym (ap (λ (x : Ballot). x.round) e), sym (ap (λ (x : Ballot). x.position) e))

rounds_rise : (m r l : ℕ) → m ≡ max 2 (max r l + 1) → (2 ≤ m) × (l < m)
rounds_rise m r l e = (omega arith, omega arith)

-- ---- what it asks for

module _ (c : Configuration) (me : Process) where
  -- it took the promise of a member
  abbrev pub IsGiven : List Act → Ballot → Given → Type 0
  IsGiven acts b g = In (taken_in me acts) (message g.0 (Promise (configuration_id c) b g.1)) × ((k : ℕ) × (position_of c g.0 ≡ Some k))

  -- such promises have brought the coordinator to its state
  pub record HeardOf (acts : List Act) (b : Ballot) (d : Coordinator) : Type 0 where
    pub start : Coordinator
    pub size : start.size ≡ length c.members
    pub position : start.position ≡ place c me
    pub given : List Given
    pub known : (g : Given) → In given g → IsGiven acts b g
    pub is : d ≡ after_promises (begun start b) b (map (report_of c) given)

  -- why a cut was asked for
  pub record Grounds (acts : List Act) (own : Option Cut) (b : Ballot) (v : Cut) : Type 0 where
    pub coordinator : Coordinator
    pub heard : HeardOf acts b coordinator
    pub last : Given
    pub known : IsGiven acts b last
    pub choice : Option Cut
    pub mine : (u : Cut) → choice ≡ Some u → own ≡ Some u
    pub asked : accept_cut coordinator (place c last.0) b last.1 choice ≡ Some v

  -- a cut was asked for at an own ballot, not above the last begun, and there only once enough have promised
  pub record Asked (acts : List Act) (d : Coordinator) (own : Option Cut) (b : Ballot) (v : Cut) : Type 0 where
    pub place_of : b.position ≡ place c me
    pub from_two : 2 ≤ b.round
    pub begun_here : b.round ≤ last_round d.ballot
    pub enough : d.ballot ≡ Some b → classic_size d.size ≤ set.len d.heard
    pub grounds : Grounds acts own b v

  pub record AskKept (acts : List Act) (d : Coordinator) (own : Option Cut) : Type 0 where
    pub size : d.size ≡ length c.members
    pub position : d.position ≡ place c me
    pub classic : (b : Ballot) → d.ballot ≡ Some b → (2 ≤ b.round) × (b.position ≡ place c me)
    pub now : (b : Ballot) → d.ballot ≡ Some b → HeardOf acts b d
    pub asked : (b : Ballot) (v : Cut) → Said acts (Accept (configuration_id c) b v) → Asked acts d own b v
    pub once : (b : Ballot) (v u : Cut) → Said acts (Accept (configuration_id c) b v) → Said acts (Accept (configuration_id c) b u) → v ≡ u

  given_more : (acts : List Act) (o : Option Act) (b : Ballot) (g : Given) → IsGiven acts b g → IsGiven (push acts o) b g
  given_more acts o b g h = (taken_more me acts o _ h.0, h.1)

  heard_more : (acts : List Act) (o : Option Act) (b : Ballot) (d : Coordinator) → HeardOf acts b d → HeardOf (push acts o) b d
  heard_more acts o b d h = record { start = h.start; size = h.size; position = h.position; given = h.given; known = λ g i. given_more acts o b g (h.known g i); is = h.is }

  grounds_more : (acts : List Act) (o : Option Act) (own new : Option Cut) (b : Ballot) (v : Cut) → ((u : Cut) → own ≡ Some u → new ≡ Some u) → Grounds acts own b v → Grounds (push acts o) new b v
  grounds_more acts o own new b v kept g =
      record {
        coordinator = g.coordinator;
        heard = heard_more acts o b g.coordinator g.heard;
        last = g.last;
        known = given_more acts o b g.last g.known;
        choice = g.choice;
        mine = λ u e. kept u (g.mine u e);
        asked = g.asked;
      }

  -- what was asked for, after a report
  asked_more : (acts : List Act) (o : Option Act) (d e : Coordinator) (own new : Option Cut) (b : Ballot) (v : Cut) → Reported d e → ((u : Cut) → own ≡ Some u → new ≡ Some u) → Asked acts d own b v → Asked (push acts o) e new b v
  asked_more acts o d e own new b v r kept a =
      record {
        place_of = a.place_of;
        from_two = a.from_two;
        begun_here = subst (λ x. b.round ≤ last_round x) (sym r.ballot) a.begun_here;
        enough = λ at. omega (arith, (ap classic_size r.size), (a.enough (sym r.ballot ∙ at)), r.more);
        grounds = grounds_more acts o own new b v kept a.grounds;
      }

  -- if nothing is asked for
  ask_same : (acts : List Act) (o : Option Act) (d e : Coordinator) (own new : Option Cut) → ((b : Ballot) (v : Cut) → body_of o ≡ Some (Accept (configuration_id c) b v) → ⊥) → ((u : Cut) → own ≡ Some u → new ≡ Some u) →
      Reported d e → ((b : Ballot) → e.ballot ≡ Some b → HeardOf (push acts o) b e) → AskKept acts d own → AskKept (push acts o) e new
  ask_same acts o d e own new quiet kept r now k =
      record {
        size = r.size ∙ k.size;
        position = r.position ∙ k.position;
        classic = λ b h. k.classic b (sym r.ballot ∙ h);
        now = now;
        asked = λ b v h. asked_more acts o d e own new b v r kept (k.asked b v (old b v h));
        once = λ b v u h g. k.once b v u (old b v h) (old b u g);
      }
    where
      old : (b : Ballot) (v : Cut) → Said (push acts o) (Accept (configuration_id c) b v) → Said acts (Accept (configuration_id c) b v)
      old b v h = elim (said_body acts o _ h) [ inl x ↦ x | inr x ↦ absurd (quiet b v x) ]

  ask_stays : (acts : List Act) (o : Option Act) (d : Coordinator) (own new : Option Cut) → ((b : Ballot) (v : Cut) → body_of o ≡ Some (Accept (configuration_id c) b v) → ⊥) → ((u : Cut) → own ≡ Some u → new ≡ Some u) →
      AskKept acts d own → AskKept (push acts o) d new
  ask_stays acts o d own new quiet kept k = ask_same acts o d d own new quiet kept (unchanged d) (λ b e. heard_more acts o b d (k.now b e)) k

  -- one more promise is heard
  heard_push : (acts : List Act) (o : Option Act) (b : Ballot) (d : Coordinator) (from : Process) (p : ℕ) (vote : Option (Vote Cut)) → In (taken_in me acts) (message from (Promise (configuration_id c) b vote)) → position_of c from ≡ Some p →
      HeardOf acts b d → HeardOf (push acts o) b (after_report d p b vote)
  heard_push acts o b d from p vote known at h =
      record {
        start = h.start;
        size = h.size;
        position = h.position;
        given = h.given ++ (from, vote) ∷ [];
        known = λ g i. elim (in_split h.given ((from, vote) ∷ []) g i) [
          | inl j ↦ given_more acts o b g (h.known g j)
          | inr j ↦ elim j [ inl e ↦ subst (IsGiven (push acts o) b) e (given_more acts o b (from, vote) (known, (p, at))) | inr n ↦ absurd n ]
        ];
        is = ap (λ x. after_report x p b vote) h.is ∙ ap (λ n. after_report (after_promises (begun h.start b) b (map (report_of c) h.given)) n b vote) (sym (ap (λ q. unwrap_or q 0) at))
            ∙ sym (after_push (begun h.start b) b (map (report_of c) h.given) (report_of c (from, vote))) ∙ ap (after_promises (begun h.start b) b) (sym (map-append (report_of c) h.given ((from, vote) ∷ [])));
      }

  -- what the coordinator heard of the ballot that it began, after a promise of any
  now_after : (acts : List Act) (o : Option Act) (b z : Ballot) (d : Coordinator) (own : Option Cut) (from : Process) (p : ℕ) (vote : Option (Vote Cut)) → In (taken_in me acts) (message from (Promise (configuration_id c) b vote)) → position_of c from ≡ Some p →
      AskKept acts d own → (after_report d p b vote).ballot ≡ Some z → HeardOf (push acts o) z (after_report d p b vote)
  now_after acts o b z d own from p vote known at k e = by (counts_promise d p b) refl
    where
      begun_at : d.ballot ≡ Some z
      begun_at = sym (reported d p b vote).ballot ∙ e

      by : (t : Bool) → counts_promise d p b ≡ t → HeardOf (push acts o) z (after_report d p b vote)
      by false f = subst (HeardOf (push acts o) z) (sym (ignored d p b vote f)) (heard_more acts o z d (k.now z begun_at))
      by true f =
          let at_b = (new_one d p b f).0 in
          let at_z = begun_at in
          let same : b ≡ z = cc in
          subst (λ x. HeardOf (push acts o) x (after_report d p b vote)) same (heard_push acts o b d from p vote known at (k.now b at_b))

ask_kept : (acts : List Act) (heard : List Message) (s : MemberState) (a : Option Act) (m : Option Message) (t : MemberState) (d : Option Cut) → Atom acts heard s a m t d → VoteKept acts s →
    AskKept s.config s.me acts s.coordinator s.proposal → AskKept s.config s.me (push acts a) t.coordinator t.proposal
ask_kept acts heard s _ _ _ _ (marks a h) votes k = ask_stays s.config s.me acts (Some a) s.coordinator s.proposal s.proposal (λ b v e. mark_body a _ h e) (λ u e. e) k
ask_kept acts heard s _ _ _ _ (begins b e) votes k =
    let o : Option Act = Some (Did (Says Others (Prepare (current_id s) b))) in
    let n = next_is s.coordinator s.acceptor.rnd b e in
    let r = rounds_rise b.round s.acceptor.rnd.round (last_round s.coordinator.ballot) n.0 in
    let old : (x : Ballot) (v : Cut) → Said (push acts o) (Accept (current_id s) x v) → Said acts (Accept (current_id s) x v) = λ x v h. elim (said_body acts o _ h) [ inl y ↦ y | inr y ↦ absurd (cc) ] in
    record {
      size = k.size;
      position = k.position;
      classic = λ x h. let same : b ≡ x = cc in subst (λ (y : Ballot). (2 ≤ y.round) × (y.position ≡ place s.config s.me)) same (r.0, n.1 ∙ k.position);
      now = λ x h. let same : b ≡ x = cc in
          subst (λ y. HeardOf s.config s.me (push acts o) y (begun s.coordinator b)) same
          (record { start = s.coordinator; size = k.size; position = k.position; given = []; known = λ g i. absurd i; is = refl });
      asked = λ x v h. let a = k.asked x v (old x v h) in
          record {
            place_of = a.place_of;
            from_two = a.from_two;
            begun_here = omega (arith, a.begun_here, r.1);
            enough = λ at. (let same : b ≡ x = cc in absurd (omega (arith, a.begun_here, r.1, (ap (λ (y : Ballot). y.round) same))));
            grounds = grounds_more s.config s.me acts o s.proposal s.proposal x v (λ u e. e) a.grounds;
          };
      once = λ x v u h g. k.once x v u (old x v h) (old x u g);
    }
ask_kept acts heard s _ _ _ _ (proposes from xs v known e) votes k =
    ask_stays s.config s.me acts (Some (Did (Proposes v))) s.coordinator s.proposal (Some v) (λ b u h. cc)
    (λ u h. let open_still : s.detector.closed ≡ false = batch_open _ _ _ (Some v) e refl in let wrong : true ≡ false = sym (votes.closes ∙ ap is_some h) ∙ open_still in cc) k
ask_kept acts heard s _ _ _ _ (hears_promise from p b vote known at e) votes k =
    ask_same s.config s.me acts None s.coordinator (after_report s.coordinator p b vote) s.proposal s.proposal (λ x u h. cc) (λ u h. h) (reported s.coordinator p b vote)
    (λ z h. now_after s.config s.me acts None b z s.coordinator s.proposal from p vote known at k h) k
ask_kept acts heard s _ _ _ _ (asks from p b vote v known at e) votes k =
    let o : Option Act = Some (Did (Says Others (Accept (current_id s) b v))) in
    let done = completes s.coordinator p b vote s.proposal v e in
    let new = new_one s.coordinator p b done.0 in
    let first : (u : Cut) → Said acts (Accept (current_id s) b u) → ⊥ = λ u h. omega (arith, ((k.asked b u h).enough new.0), done.1) in
    let r = reported s.coordinator p b vote in
    let here : Asked s.config s.me (push acts o) (after_report s.coordinator p b vote) s.proposal b v = record {
      place_of = (k.classic b new.0).1;
      from_two = (k.classic b new.0).0;
      begun_here = subst (λ x. b.round ≤ last_round x) (sym (r.ballot ∙ new.0)) (omega arith);
      enough = λ z. omega (arith, (ap classic_size r.size), (grown s.coordinator p b vote done.0 ∙ done.1));
      grounds = record {
        coordinator = s.coordinator;
        heard = heard_more s.config s.me acts o b s.coordinator (k.now b new.0);
        last = (from, vote);
        known = given_more s.config s.me acts o b (from, vote) (known, (p, at));
        choice = s.proposal;
        mine = λ u h. h;
        asked = ap (λ n. accept_cut s.coordinator n b vote s.proposal) (ap (λ q. unwrap_or q 0) at) ∙ e;
      };
    } in
    record {
      size = r.size ∙ k.size;
      position = r.position ∙ k.position;
      classic = λ x h. k.classic x (sym r.ballot ∙ h);
      now = λ z h. now_after s.config s.me acts o b z s.coordinator s.proposal from p vote known at k h;
      asked = λ x u h. elim (said_body acts o _ h) [
        | inl y ↦ asked_more s.config s.me acts o s.coordinator (after_report s.coordinator p b vote) s.proposal s.proposal x u r (λ z q. q) (k.asked x u y)
        | inr y ↦ (let one : b ≡ x = cc in let two : v ≡ u = cc in subst₂ (λ z w. Asked s.config s.me (push acts o) (after_report s.coordinator p b vote) s.proposal z w) one two here)
      ];
      once = λ d u z h g. elim (said_body acts o _ h) [
        | inl x ↦ elim (said_body acts o _ g) [
          | inl y ↦ k.once d u z x y
          | inr y ↦ (let same : b ≡ d = cc in absurd (first u (subst (λ q. Said acts (Accept (current_id s) q u)) (sym same) x)))
        ]
        | inr x ↦ elim (said_body acts o _ g) [
          | inl y ↦ (let same : b ≡ d = cc in absurd (first z (subst (λ q. Said acts (Accept (current_id s) q z)) (sym same) y)))
          | inr y ↦ (let one : v ≡ u = cc in let two : v ≡ z = cc in sym one ∙ two)
        ]
      ];
    }
ask_kept acts heard s a m t d x votes k = ask_stays s.config s.me acts a s.coordinator s.proposal s.proposal (λ b v e. cc) (λ u e. e) k

pub lives_asks : (c : Configuration) (me : Process) (acts : List Act) (heard : List Message) (s : MemberState) (d : Option Cut) → Lives c me acts heard s d → AskKept s.config s.me acts s.coordinator s.proposal
unfolding fresh_member
lives_asks c me _ _ _ _ (enters k at) = record { size = refl; position = refl; classic = λ b e. absurd (cc); now = λ b e. absurd (cc); asked = λ b v h. absurd h.1; once = λ b v u h g. absurd h.1 }
lives_asks c me _ _ _ _ (does acts heard s a m t d l x) =
    subst₂ (λ e p. AskKept e p (push acts a) t.coordinator t.proposal) (sym (atom_config acts heard s a m t d x)) (sym (atom_me acts heard s a m t d x))
    (ask_kept acts heard s a m t d x (lives_vote c me acts heard s None l) (lives_asks c me acts heard s None l))
lives_asks c me _ _ _ _ (leaves acts heard s v a l mark) = ask_stays s.config s.me acts (Some a) s.coordinator s.proposal s.proposal (λ b u e. mark_body a _ mark e) (λ u e. e) (lives_asks c me acts heard s (Some v) l)

-- ---- one cut at most is asked for at a ballot of a configuration

-- a process whose acts in c hold something has a life there
pub record LifeIn (log : List Entry) (p : Process) (c : Configuration) : Type 0 where
  pub heard : List Message
  pub state : MemberState
  pub decided : Option Cut
  pub life : Lives c p (acts_at log p c) heard state decided
  pub config : c ≡ state.config
  pub me : p ≡ state.me

pub life_of : (log : List Entry) (p : Process) (c : Configuration) (b : Rattle.rapid_model.specs.Message.Body) → PastLife log p c → Said (acts_at log p c) b → LifeIn log p c
life_of log p c b (was_not none) h = absurd (subst (λ a. In a (Did (Says h.0 b))) none h.1)
life_of log p c b (was heard s d l) h = record { heard = heard; state = s; decided = d; life = l; config = sym (lives_config c p _ heard s d l); me = sym (lives_me c p _ heard s d l) }

pub asks_of : (log : List Entry) (p : Process) (c : Configuration) (l : LifeIn log p c) → AskKept c p (acts_at log p c) l.state.coordinator l.state.proposal
asks_of log p c l = subst₂ (λ d q. AskKept d q (acts_at log p c) l.state.coordinator l.state.proposal) (sym l.config) (sym l.me) (lives_asks c p _ l.heard l.state l.decided l.life)

-- who asks at a ballot has its place
pub asks_at_place : (log : List Entry) (p : Process) (c : Configuration) (b : Ballot) (v : Cut) → LifeIn log p c → Said (acts_at log p c) (Accept (configuration_id c) b v) → position_of c p ≡ Some b.position
asks_at_place log p c b v l h =
    subst₂ (λ d q. position_of d q ≡ Some (place d q)) (sym l.config) (sym l.me) (lives_placed c p _ l.heard l.state l.decided l.life)
    ∙ ap Some (sym ((asks_of log p c l).asked b v h).place_of)

pub asked_once : (log : List Entry) (p q : Process) (c : Configuration) (b : Ballot) (v u : Cut) → LifeIn log p c → LifeIn log q c →
    Said (acts_at log p c) (Accept (configuration_id c) b v) → Said (acts_at log q c) (Accept (configuration_id c) b u) → v ≡ u
asked_once log p q c b v u l m h g =
    let same : q ≡ p = one_place q p c.members b.position (asks_at_place log q c b u m g) (asks_at_place log p c b v l h) in
    (asks_of log p c l).once b v u h (subst (λ x. Said (acts_at log x c) (Accept (configuration_id c) b u)) same g)
