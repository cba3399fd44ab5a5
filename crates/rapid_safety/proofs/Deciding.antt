-- A life that ends with a decision has heard a quorum for it, or a Decision.
use Rattle.std.proofs.Common.{◌≡◌, ◌≤◌, ◌+◌, inl, inr, ℕ, Bool, true, false, cond, ◌&&◌, ◌||◌, List, [], ◌∷◌, count_by, refl, sym, ap, subst, ◌∙◌, arith, ◌++◌, Option, Some, None, length, ◌<◌, ◌*◌, ◌==◌, not}
use Rattle.rapid_safety.proofs.Basics.{and_parts, and_from, false_from_ne_true, unwrap_or, nat_cmp_total, cond_some, In, in_from, contains_from, same_bytes_decides, ballots_exact, ballots_decided, cuts_exact, same_cut_decides, notices_total, first_equal, second_equal}
use Rattle.std.specs.FinSet as set
use Rattle.std.specs.FinMap as map
use Rattle.rapid_safety.proofs.Values.{Process, same_bytes, Cut, cut_cmp, same_cut, Configuration, configuration_id, position_of, Message, Body, FastVote, Accepted, Decision, Ballot, same_ballot, ballot_cmp, fast_ballot, size, classic_size, fast_size}
use Rattle.rapid_safety.proofs.Parts.{FastRound, count_of, one_more, hear_vote, fast_decision, Learner, Notice, notice_cmp, notice_count, after_notice, completes_notices, learnt, after_accept}
use Rattle.rapid_safety.proofs.Working.{Others, Says, MemberState, fresh_member, own_place, current_id, vote_seen}
use Rattle.rapid_safety.proofs.Worlds.{Act, Did}
use Rattle.rapid_model.proofs.Closure.{count_mono, count_more}
use Rattle.rapid_model.proofs.Rounds.{hear_vote-heard, hear_vote-new, count_of-one_more}
use Rattle.rapid_agreement.proofs.SetLemmas.{of_insert, new_in, old_in, insert_known, len_new_kept}
use Rattle.rapid_safety.specs.Evidence.{Evidence}
use Rattle.rapid_safety.specs.Evidence as evidence
use Rattle.rapid_safety.proofs.Members.{Distinct, not_in, member_at}
use Rattle.rapid_safety.proofs.Atoms.{casts, push, message, taken_in, Known, Atom, marks, hears_vote, Lives, enters, does, leaves, lives_placed, hears_notice, hears_decision, lives_config, lives_me}
use Rattle.rapid_safety.proofs.Rows.{own_known}
use Rattle.rapid_safety.proofs.Voting.{taken_more}
use Rattle.std.proofs.lemmas.Bool.{leb-true, or_right, or_left}
use Rattle.rapid_model.proofs.Lists.{count_cons, in_any}
use Rattle.std.proofs.lemmas.Option.{same_Some}

-- the process said something that passes
abbrev pub says_it : {X : Type 0} → (X → Bool) → List (Process × X) → Process → Bool
says_it f [] a = false
says_it f (r ∷ rs) a = (same_bytes a r.0 && f r.1) || says_it f rs a

-- each said at most one thing that passes
abbrev pub Once : {X : Type 0} → (X → Bool) → List (Process × X) → Type 0
Once f [] = Unit {0}
Once f (r ∷ rs) = (f r.1 ≡ true → says_it f rs r.0 ≡ false) × Once f rs

pub said_it : {X : Type 0} (f : X → Bool) (rs : List (Process × X)) (a : Process) → says_it f rs a ≡ true → (x : X) × In rs (a, x) × (f x ≡ true)
said_it f [] a h = cc
said_it {X} f (r ∷ rs) a h = by (same_bytes a r.0 && f r.1) refl h (said_it f rs a)
  where
    by : (b : Bool) → (same_bytes a r.0 && f r.1) ≡ b → (b || says_it f rs a) ≡ true → (says_it f rs a ≡ true → (x : X) × In rs (a, x) × (f x ≡ true)) → (x : X) × In (r ∷ rs) (a, x) × (f x ≡ true)
    by true e k later = let p = and_parts _ _ e in let same : a ≡ r.0 = (same_bytes_decides a r.0).0 p.0 in (r.1, inl (λ i. (sym same i, r.1)), p.1)
    by false e k later = let n = later k in (n.0, inr n.1, n.2)

pub says_so : {X : Type 0} (f : X → Bool) (rs : List (Process × X)) (r : Process × X) → In rs r → f r.1 ≡ true → says_it f rs r.0 ≡ true
says_so f [] r i h = absurd i
says_so {X} f (q ∷ rs) r (inl s) h = or_left _ _ (and_from _ _ ((same_bytes_decides r.0 q.0).1 (sym (ap (λ (z : Process × X). z.0) s))) (ap (λ (z : Process × X). f z.1) s ∙ h))
says_so f (q ∷ rs) r (inr i) h = or_right _ _ (says_so f rs r i h)

-- ---- counting

-- what is said by members is said by as many members at least
pub backed : {X : Type 0} (f : X → Bool) (members : List Process) (rs : List (Process × X)) → Once f rs → ((r : Process × X) → In rs r → In members r.0) → count_by (λ (r : Process × X). f r.1) rs ≤ count_by (says_it f rs) members
backed f members [] once there = omega arith
backed {X} f members (r ∷ rs) once there = by (backed f members rs once.1 (λ z i. there z (inr i))) (f r.1) refl
  where
    here : (b : Bool) → f r.1 ≡ b → count_by (λ (z : Process × X). f z.1) (r ∷ rs) ≡ cond b 1 0 + count_by (λ (z : Process × X). f z.1) rs
    here b e = count_cons (λ (z : Process × X). f z.1) r rs ∙ ap (λ b. cond b 1 0 + count_by (λ (z : Process × X). f z.1) rs) e

    by : count_by (λ (z : Process × X). f z.1) rs ≤ count_by (says_it f rs) members → (b : Bool) → f r.1 ≡ b → count_by (λ (z : Process × X). f z.1) (r ∷ rs) ≤ count_by (says_it f (r ∷ rs)) members
    by v true e =
        let u = here true e in
        let w = count_more (says_it f rs) (says_it f (r ∷ rs)) members (λ x h. or_right _ _ h)
        (in_any (λ x. says_it f (r ∷ rs) x && not (says_it f rs x)) members r.0 (there r (inl refl)) (and_from _ _ (says_so f (r ∷ rs) r (inl refl) e) (ap not (once.0 e)))) in
        omega arith
    by v false e =
        let u = here false e in
        let w = count_mono (says_it f rs) (says_it f (r ∷ rs)) members (λ x h. or_right _ _ h) in
        omega arith

-- ---- and by no more, if the members differ

count_or : {A : Type 0} (p q : A → Bool) (xs : List A) → count_by (λ x. p x || q x) xs ≤ count_by p xs + count_by q xs
count_or p q [] = omega arith
count_or p q (x ∷ xs) = sums (count_or p q xs) (p x) (q x) (count_cons p x xs) (count_cons q x xs) (count_cons (λ x. p x || q x) x xs)
  where
    sums : count_by (λ x. p x || q x) xs ≤ count_by p xs + count_by q xs → (a b : Bool) → count_by p (x ∷ xs) ≡ cond a 1 0 + count_by p xs → count_by q (x ∷ xs) ≡ cond b 1 0 + count_by q xs → count_by (λ x. p x || q x) (x ∷ xs) ≡ cond (a || b) 1 0 + count_by (λ x. p x || q x) xs →
        count_by (λ x. p x || q x) (x ∷ xs) ≤ count_by p (x ∷ xs) + count_by q (x ∷ xs)
    sums rest true true u v t = omega arith
    sums rest true false u v t = omega arith
    sums rest false true u v t = omega arith
    sums rest false false u v t = omega arith

none_counted : {A : Type 0} (p : A → Bool) (xs : List A) → ((x : A) → In xs x → p x ≡ false) → count_by p xs ≡ 0
none_counted p [] h = refl
none_counted p (x ∷ xs) h =
    let r = none_counted p xs (λ y i. h y (inr i)) in
    let c = count_cons p x xs ∙ ap (λ b. cond b 1 0 + count_by p xs) (h x (inl refl)) in
    omega arith

count_one : (b : Bool) (a : Process) (xs : List Process) → Distinct xs → count_by (λ x. same_bytes x a && b) xs ≤ cond b 1 0
count_one b a [] d = by b
  where
    by : (c : Bool) → 0 ≤ cond c 1 0
    by true = omega arith
    by false = omega arith
count_one b a (x ∷ xs) d = by (count_one b a xs d.1) (same_bytes x a) b refl refl
  where
    off : (c : Bool) → same_bytes x a ≡ true → c ≡ true → (y : Process) → In xs y → (same_bytes y a && b) ≡ false
    off c e g y i = far (same_bytes y a) refl
      where
        far : (t : Bool) → same_bytes y a ≡ t → (t && b) ≡ false
        far true z = absurd (not_in xs x d.0 (subst (In xs) ((same_bytes_decides y a).0 z ∙ sym ((same_bytes_decides x a).0 e)) i))
        far false z = refl

    head : (t c : Bool) → same_bytes x a ≡ t → b ≡ c → count_by (λ x. same_bytes x a && b) (x ∷ xs) ≡ cond (t && c) 1 0 + count_by (λ x. same_bytes x a && b) xs
    head t c e g = count_cons (λ x. same_bytes x a && b) x xs ∙ ap (λ z. cond z 1 0 + count_by (λ x. same_bytes x a && b) xs) (λ i. e i && g i)

    by : count_by (λ x. same_bytes x a && b) xs ≤ cond b 1 0 → (t c : Bool) → same_bytes x a ≡ t → b ≡ c → count_by (λ x. same_bytes x a && b) (x ∷ xs) ≤ cond b 1 0
    by rest true true e g =
        let u = head true true e g in
        let v = none_counted (λ x. same_bytes x a && b) xs (off true e refl) in
        let w : ◌≡◌ {A = ℕ} (cond b 1 0) 1 = ap (λ c. cond c 1 0) g in
        omega arith
    by rest true false e g = let u = head true false e g in omega arith
    by rest false true e g = let u = head false true e g in omega arith
    by rest false false e g = let u = head false false e g in omega arith

pub backed_by : {X : Type 0} (f : X → Bool) (members : List Process) → Distinct members → (rs : List (Process × X)) → count_by (says_it f rs) members ≤ count_by (λ (r : Process × X). f r.1) rs
backed_by f members d [] = let z : count_by (says_it f []) members ≡ 0 = none_counted (says_it f []) members (λ x i. refl) in omega arith
backed_by {X} f members d (r ∷ rs) =
    let u : count_by (λ (z : Process × X). f z.1) (r ∷ rs) ≡ cond (f r.1) 1 0 + count_by (λ (z : Process × X). f z.1) rs = count_cons (λ (z : Process × X). f z.1) r rs in
    let v : count_by (says_it f rs) members ≤ count_by (λ (z : Process × X). f z.1) rs = backed_by f members d rs in
    let w : count_by (says_it f (r ∷ rs)) members ≤ count_by (λ a. same_bytes a r.0 && f r.1) members + count_by (says_it f rs) members = count_or (λ a. same_bytes a r.0 && f r.1) (says_it f rs) members in
    let x : count_by (λ a. same_bytes a r.0 && f r.1) members ≤ cond (f r.1) 1 0 = count_one (f r.1) r.0 members d in
    omega (arith, u, v, w, x)

-- ---- the fast votes that a member counted

-- what is known stays known
pub known_more : (acts : List Act) (o : Option Act) (s t : MemberState) (p : Process) (B : List ℕ → Body) → t.config ≡ s.config → t.me ≡ s.me → Known acts s p (B (current_id s)) → Known (push acts o) t p (B (current_id t))
known_more acts o s t p B config me k =
    subst (λ c. In (taken_in t.me (push acts o)) (message p (B (configuration_id c)))) (sym config)
    (subst (λ x. In (taken_in x (push acts o)) (message p (B (current_id s)))) (sym me) (taken_more s.me acts o _ k))

pub record VotesKept (acts : List Act) (s : MemberState) : Type 0 where
  pub size : s.fast.size ≡ length s.config.members
  -- the first vote of each position
  pub votes : List (Process × Cut)
  pub known : (r : Process × Cut) → In votes r → Known acts s r.0 (FastVote (current_id s) r.1)
  pub placed : (r : Process × Cut) → In votes r → (k : ℕ) × (position_of s.config r.0 ≡ Some k) × (set.contains s.fast.heard k ≡ true)
  pub voter : (k : ℕ) → set.contains s.fast.heard k ≡ true → (r : Process × Cut) × In votes r × (position_of s.config r.0 ≡ Some k)
  pub once : (f : Cut → Bool) → Once f votes
  pub counts : (v : Cut) → count_of s.fast.counts v ≡ count_by (λ (r : Process × Cut). same_cut r.1 v) votes

votes_stay : (acts : List Act) (o : Option Act) (s t : MemberState) → t.fast ≡ s.fast → t.config ≡ s.config → t.me ≡ s.me → VotesKept acts s → VotesKept (push acts o) t
votes_stay acts o s t fast config me k =
    record {
      size = ap (λ (f : FastRound). f.size) fast ∙ k.size ∙ ap (λ (c : Configuration). length c.members) (sym config);
      votes = k.votes;
      known = λ r i. known_more acts o s t r.0 (λ id. FastVote id r.1) config me (k.known r i);
      placed = λ r i. let p = k.placed r i in (p.0, ap (λ c. position_of c r.0) config ∙ p.1, ap (λ (f : FastRound). set.contains f.heard p.0) fast ∙ p.2);
      voter = λ n h. let v = k.voter n (ap (λ (f : FastRound). set.contains f.heard n) (sym fast) ∙ h) in (v.0, v.1, ap (λ c. position_of c v.0.0) config ∙ v.2);
      once = k.once;
      counts = λ v. ap (λ (f : FastRound). count_of f.counts v) fast ∙ k.counts v;
    }

module _ (acts : List Act) (s : MemberState) (from : Process) (p : ℕ) (v : Cut) (known : Known acts s from (FastVote (current_id s) v)) (at : position_of s.config from ≡ Some p) (k : VotesKept acts s) where
  -- a position that has not voted is in no entry of the list
  not_yet : set.contains s.fast.heard p ≡ false → (f : Cut → Bool) → says_it f k.votes from ≡ false
  not_yet new f =
      false_from_ne_true _ (λ e.
      let r = said_it f k.votes from e in
      let q = k.placed (from, r.0) r.1 in
      let same : q.0 ≡ p = same_Some _ _ (sym q.1 ∙ at) in
      let wrong : true ≡ false = sym q.2 ∙ ap (set.contains s.fast.heard) same ∙ new in cc)

  abbrev new_round : FastRound
  new_round = record { size = s.fast.size; heard = set.insert s.fast.heard p; counts = one_more s.fast.counts v }

  first_vote : set.contains s.fast.heard p ≡ false → VotesKept acts (record (vote_seen s) { fast = new_round })
  first_vote new =
      record {
        size = k.size;
        votes = (from, v) ∷ k.votes;
        known = λ r i. elim i [ inl e ↦ subst (λ (z : Process × Cut). Known acts s z.0 (FastVote (current_id s) z.1)) e known | inr j ↦ k.known r j ];
        placed = λ r i. elim i [
          | inl e ↦ (p, subst (λ (z : Process × Cut). position_of s.config z.0 ≡ Some p) e at, new_in nat_cmp_total set.nat_cmp-IsAntisymmetric s.fast.heard p)
          | inr j ↦ let q = k.placed r j in (q.0, q.1, old_in nat_cmp_total set.nat_cmp-IsAntisymmetric s.fast.heard p q.0 q.2)
        ];
        voter = λ n h. elim (of_insert nat_cmp_total set.nat_cmp-IsAntisymmetric s.fast.heard p n h) [
          | inl e ↦ ((from, v), inl refl, at ∙ ap Some (sym e))
          | inr j ↦ let r = k.voter n j in (r.0, inr r.1, r.2)
        ];
        once = λ f. ((λ pass. not_yet new f), k.once f);
        counts = λ u. count_of-one_more s.fast.counts v u ∙ ap (λ n. n + cond (same_cut v u) 1 0) (k.counts u)
            ∙ omega arith
            ∙ sym (count_cons (λ (r : Process × Cut). same_cut r.1 u) (from, v) k.votes);
      }

  pub vote_counted : VotesKept acts (record (vote_seen s) { fast = hear_vote s.fast p v })
  vote_counted = by (set.contains s.fast.heard p) refl
    where
      by : (b : Bool) → set.contains s.fast.heard p ≡ b → VotesKept acts (record (vote_seen s) { fast = hear_vote s.fast p v })
      by true e = votes_stay acts None s (record (vote_seen s) { fast = hear_vote s.fast p v }) (hear_vote-heard s.fast p v e) refl refl k
      by false e = subst (λ (f : FastRound). VotesKept acts (record (vote_seen s) { fast = f })) (sym (hear_vote-new s.fast p v e)) (first_vote e)

pub votes_kept : (acts : List Act) (heard : List Message) (s : MemberState) (a : Option Act) (m : Option Message) (t : MemberState) (d : Option Cut) → position_of s.config s.me ≡ Some (own_place s) → Atom acts heard s a m t d →
    VotesKept acts s → VotesKept (push acts a) t
votes_kept acts heard s _ _ _ _ mine (marks x h) k = votes_stay acts (Some x) s s refl refl refl k
votes_kept acts heard s _ _ _ _ mine (hears_vote from p v known at) k = vote_counted acts s from p v known at k
votes_kept acts heard s _ _ _ _ mine (casts v own ok) k =
    let o : Act = Did (Says Others (FastVote (current_id s) v)) in
    votes_stay (acts ++ o ∷ []) None (record (vote_seen s) { fast = hear_vote s.fast (own_place s) v }) _ refl refl refl
    (vote_counted (acts ++ o ∷ []) s s.me (own_place s) v (own_known acts s.me Others (FastVote (current_id s) v) refl) mine (votes_stay acts (Some o) s s refl refl refl k))
votes_kept acts heard s a m t d mine x k = votes_stay acts a s t refl refl refl k

pub lives_votes : (c : Configuration) (me : Process) (acts : List Act) (heard : List Message) (s : MemberState) (d : Option Cut) → Lives c me acts heard s d → VotesKept acts s
unfolding fresh_member
lives_votes c me _ _ _ _ (enters k at) =
    record {
      size = refl;
      votes = [];
      known = λ r i. absurd i;
      placed = λ r i. absurd i;
      voter = λ n h. let wrong : true ≡ false = sym h ∙ set.contains-empty Rattle.std.specs.Ordering.nat_cmp n in cc;
      once = λ f. tt;
      counts = λ v. ap (λ o. unwrap_or o 0) (map.get-empty cut_cmp v);
    }
lives_votes c me _ _ _ _ (does acts heard s a m t d l x) = votes_kept acts heard s a m t d (lives_placed c me acts heard s None l) x (lives_votes c me acts heard s None l)
lives_votes c me _ _ _ _ (leaves acts heard s v a l mark) = votes_stay acts (Some a) s s refl refl refl (lives_votes c me acts heard s (Some v) l)

-- ---- the accepted notices that a member counted

pub notices_exact : set.IsAntisymmetric notice_cmp
notices_exact a b e =
    let both = first_equal (Rattle.std.specs.Ordering.ordering_then (ballot_cmp a.0.0 b.0.0) (cut_cmp a.0.1 b.0.1)) (Rattle.std.specs.Ordering.nat_cmp a.1 b.1) e in
    let p : a.0.0 ≡ b.0.0 = ballots_exact _ _ (first_equal (ballot_cmp a.0.0 b.0.0) (cut_cmp a.0.1 b.0.1) both) in
    let q : a.0.1 ≡ b.0.1 = cuts_exact _ _ (second_equal (ballot_cmp a.0.0 b.0.0) (cut_cmp a.0.1 b.0.1) both) in
    let r : a.1 ≡ b.1 = set.nat_cmp-IsAntisymmetric _ _ (second_equal (Rattle.std.specs.Ordering.ordering_then (ballot_cmp a.0.0 b.0.0) (cut_cmp a.0.1 b.0.1)) (Rattle.std.specs.Ordering.nat_cmp a.1 b.1) e) in
    λ i. ((p i, q i), r i)

-- it is of this cut at this ballot
abbrev pub is_of : Ballot → Cut → Ballot × Cut → Bool
is_of b v x = same_ballot x.0 b && same_cut x.1 v

pub of_is : (b : Ballot) (v : Cut) (x : Ballot × Cut) → is_of b v x ≡ true → x ≡ (b, v)
of_is b v x h = let p = and_parts _ _ h in let one = (ballots_decided x.0 b).0 p.0 in let two = (same_cut_decides x.1 v).0 p.1 in λ i. (one i, two i)

pub record NoticesKept (acts : List Act) (s : MemberState) : Type 0 where
  pub size : s.learner.size ≡ length s.config.members
  pub notes : List (Process × (Ballot × Cut))
  pub known : (r : Process × (Ballot × Cut)) → In notes r → Known acts s r.0 (Accepted (current_id s) r.1.0 r.1.1)
  pub placed : (r : Process × (Ballot × Cut)) → In notes r → (k : ℕ) × (position_of s.config r.0 ≡ Some k) × (set.contains s.learner.notices (r.1, k) ≡ true)
  pub giver : (x : Ballot × Cut) (k : ℕ) → set.contains s.learner.notices (x, k) ≡ true → (p : Process) × In notes (p, x) × (position_of s.config p ≡ Some k)
  pub once : (b : Ballot) (v : Cut) → Once (is_of b v) notes
  pub counts : (b : Ballot) (v : Cut) → notice_count s.learner.notices b v ≡ count_by (λ (r : Process × (Ballot × Cut)). is_of b v r.1) notes

notices_stay : (acts : List Act) (o : Option Act) (s t : MemberState) → t.learner.size ≡ s.learner.size → t.learner.notices ≡ s.learner.notices → t.config ≡ s.config → t.me ≡ s.me → NoticesKept acts s → NoticesKept (push acts o) t
notices_stay acts o s t size same config me k =
    record {
      size = size ∙ k.size ∙ ap (λ (c : Configuration). length c.members) (sym config);
      notes = k.notes;
      known = λ r i. known_more acts o s t r.0 (λ id. Accepted id r.1.0 r.1.1) config me (k.known r i);
      placed = λ r i. let p = k.placed r i in (p.0, ap (λ c. position_of c r.0) config ∙ p.1, ap (λ x. set.contains x (r.1, p.0)) same ∙ p.2);
      giver = λ x n h. let g = k.giver x n (ap (λ y. set.contains y (x, n)) (sym same) ∙ h) in (g.0, g.1, ap (λ c. position_of c g.0) config ∙ g.2);
      once = k.once;
      counts = λ b v. ap (λ x. notice_count x b v) same ∙ k.counts b v;
    }

module _ (acts : List Act) (s : MemberState) (from : Process) (p : ℕ) (b : Ballot) (v : Cut) (known : Known acts s from (Accepted (current_id s) b v)) (at : position_of s.config from ≡ Some p) (k : NoticesKept acts s) where
  notice_not_yet : set.contains s.learner.notices ((b, v), p) ≡ false → (a : Ballot) (u : Cut) → is_of a u (b, v) ≡ true → says_it (is_of a u) k.notes from ≡ false
  notice_not_yet new a u is =
      false_from_ne_true _ (λ e.
      let r = said_it (is_of a u) k.notes from e in
      let q = k.placed (from, r.0) r.1 in
      let one : r.0 ≡ (b, v) = of_is a u r.0 r.2 ∙ sym (of_is a u (b, v) is) in
      let same : q.0 ≡ p = same_Some _ _ (sym q.1 ∙ at) in
      let wrong : true ≡ false = sym q.2 ∙ (λ i. set.contains s.learner.notices (one i, same i)) ∙ new in cc)

  abbrev with_new : Learner
  with_new = record s.learner { notices = set.insert s.learner.notices ((b, v), p) }

  first_notice : set.contains s.learner.notices ((b, v), p) ≡ false → NoticesKept acts (record s { learner = with_new })
  first_notice new =
      record {
        size = k.size;
        notes = (from, (b, v)) ∷ k.notes;
        known = λ r i. elim i [ inl e ↦ subst (λ (z : Process × (Ballot × Cut)). Known acts s z.0 (Accepted (current_id s) z.1.0 z.1.1)) e known | inr j ↦ k.known r j ];
        placed = λ r i. elim i [
          | inl e ↦ (
            p,
            subst (λ (z : Process × (Ballot × Cut)). position_of s.config z.0 ≡ Some p) e at,
            subst (λ (z : Process × (Ballot × Cut)). set.contains (set.insert s.learner.notices ((b, v), p)) (z.1, p) ≡ true) e (new_in notices_total notices_exact s.learner.notices ((b, v), p)),
          )
          | inr j ↦ let q = k.placed r j in (q.0, q.1, old_in notices_total notices_exact s.learner.notices ((b, v), p) (r.1, q.0) q.2)
        ];
        giver = λ x n h. elim (of_insert notices_total notices_exact s.learner.notices ((b, v), p) (x, n) h) [
          | inl e ↦ (from, inl (λ i. (from, sym (ap (λ (z : Notice). z.0) e) i)), at ∙ ap Some (sym (ap (λ (z : Notice). z.1) e)))
          | inr j ↦ let g = k.giver x n j in (g.0, inr g.1, g.2)
        ];
        once = λ a u. (notice_not_yet new a u, k.once a u);
        counts = λ a u. len_new_kept notices_total notices_exact s.learner.notices ((b, v), p) (λ x. same_ballot x.0.0 a && same_cut x.0.1 u) new
            ∙ ap (λ n. cond (is_of a u (b, v)) 1 0 + n) (k.counts a u)
            ∙ sym (count_cons (λ (r : Process × (Ballot × Cut)). is_of a u r.1) (from, (b, v)) k.notes);
      }

  counted : NoticesKept acts (record s { learner = with_new })
  counted = by (set.contains s.learner.notices ((b, v), p)) refl
    where
      by : (t : Bool) → set.contains s.learner.notices ((b, v), p) ≡ t → NoticesKept acts (record s { learner = with_new })
      by true e = notices_stay acts None s (record s { learner = with_new }) refl (insert_known notices_total notices_exact s.learner.notices ((b, v), p) e) refl refl k
      by false e = first_notice e

  pub notice_counted : NoticesKept acts (record s { learner = after_notice s.learner p b v })
  unfolding after_notice
  notice_counted = notices_stay acts None (record s { learner = with_new }) (record s { learner = after_notice s.learner p b v }) refl refl refl refl counted

pub notices_kept : (acts : List Act) (heard : List Message) (s : MemberState) (a : Option Act) (m : Option Message) (t : MemberState) (d : Option Cut) → Atom acts heard s a m t d → NoticesKept acts s → NoticesKept (push acts a) t
notices_kept acts heard s _ _ _ _ (marks x h) k = notices_stay acts (Some x) s s refl refl refl refl k
notices_kept acts heard s _ _ _ _ (hears_notice from p b v known at) k = notice_counted acts s from p b v known at k
notices_kept acts heard s a m t d x k = notices_stay acts a s t refl refl refl refl k

-- nothing passes of nothing
pub no_notices : (b : Ballot) (v : Cut) → notice_count set.empty b v ≡ 0
no_notices b v = ap set.len (set.same_set notices_total notices_exact (set.retain set.empty (λ x. same_ballot x.0.0 b && same_cut x.0.1 v)) set.empty (λ q. set.contains-retain set.empty (λ x. same_ballot x.0.0 b && same_cut x.0.1 v) q (λ x e. ap (λ (z : Notice). same_ballot z.0.0 b && same_cut z.0.1 v) (sym (notices_exact q x e))) ∙ ap (λ t. t && (same_ballot q.0.0 b && same_cut q.0.1 v)) (set.contains-empty notice_cmp q) ∙ sym (set.contains-empty notice_cmp q))) ∙ set.len-empty notice_cmp

pub lives_notices : (c : Configuration) (me : Process) (acts : List Act) (heard : List Message) (s : MemberState) (d : Option Cut) → Lives c me acts heard s d → NoticesKept acts s
unfolding fresh_member
lives_notices c me _ _ _ _ (enters k at) =
    record {
      size = refl;
      notes = [];
      known = λ r i. absurd i;
      placed = λ r i. absurd i;
      giver = λ x n h. let wrong : true ≡ false = sym h ∙ set.contains-empty notice_cmp (x, n) in cc;
      once = λ b v. tt;
      counts = no_notices;
    }
lives_notices c me _ _ _ _ (does acts heard s a m t d l x) = notices_kept acts heard s a m t d x (lives_notices c me acts heard s None l)
lives_notices c me _ _ _ _ (leaves acts heard s v a l mark) = notices_stay acts (Some a) s s refl refl refl refl (lives_notices c me acts heard s (Some v) l)

-- ---- a life that ends with a decision has heard a quorum for it, or a Decision

-- evidence stays, if what was taken stays
pub evidence_more : (c : Configuration) (me : Process) (acts more : List Act) (v : Cut) → ((m : Message) → In (taken_in me acts) m → In (taken_in me more) m) → Evidence c me acts v → Evidence c me more v
evidence_more c me acts more v f (evidence.by_votes q e g) = evidence.by_votes q e (λ p m h. contains_from (taken_in me more) _ (f _ (in_from (taken_in me acts) _ (g p m h))))
evidence_more c me acts more v f (evidence.by_notices b q e g) = evidence.by_notices b q e (λ p m h. contains_from (taken_in me more) _ (f _ (in_from (taken_in me acts) _ (g p m h))))
evidence_more c me acts more v f (evidence.by_decision p h) = evidence.by_decision p (contains_from (taken_in me more) _ (f _ (in_from (taken_in me acts) _ h)))

-- a member has evidence for a cut
abbrev Decided : List Act → MemberState → Cut → Type 0
Decided acts s v = Evidence s.config s.me acts v

-- ---- a vote decides

classic_enough : (n k q : ℕ) → classic_size n ≤ k → k ≤ q → n < 2 * q
classic_enough n k q h g = omega arith

-- the vote that decides completes a fast quorum
deciding_vote : (s : MemberState) (p : ℕ) (v u : Cut) → fast_decision s.fast p v ≡ Some u → (v ≡ u) × (count_of (hear_vote s.fast p v).counts v ≡ fast_size s.fast.size)
unfolding fast_decision
deciding_vote s p v u h = by (set.contains s.fast.heard p) (count_of s.fast.counts v + 1 == fast_size s.fast.size) refl refl h
  where
    counts_one : set.contains s.fast.heard p ≡ false → count_of (hear_vote s.fast p v).counts v ≡ count_of s.fast.counts v + 1
    counts_one e = ap (λ f. count_of (Rattle.rapid_model.specs.FastRound.FastRound.counts f) v) (hear_vote-new s.fast p v e) ∙ count_of-one_more s.fast.counts v v ∙ ap (λ b. count_of s.fast.counts v + cond b 1 0) ((same_cut_decides v v).1 refl)

    by : (a b : Bool) → set.contains s.fast.heard p ≡ a → (count_of s.fast.counts v + 1 == fast_size s.fast.size) ≡ b → cond a None (cond b (Some v) None) ≡ Some u → (v ≡ u) × (count_of (hear_vote s.fast p v).counts v ≡ fast_size s.fast.size)
    by true b e f k = cc
    by false false e f k = cc
    by false true e f k = (cc, counts_one e ∙ Prim.grind (arith, f))

members_placed : (s : MemberState) (p : Process) (k : ℕ) → position_of s.config p ≡ Some k → In s.config.members p
members_placed s p k h = member_at p s.config.members k h

voted : (acts : List Act) (s : MemberState) (v : Cut) → VotesKept acts s → count_of s.fast.counts v ≡ fast_size s.fast.size → Decided acts s v
voted acts s v k full =
    let passes : Cut → Bool = λ u. same_cut u v in
    let many : count_by (λ (r : Process × Cut). same_cut r.1 v) k.votes ≡ fast_size (length s.config.members) = sym (k.counts v) ∙ full ∙ ap fast_size k.size in
    let few : count_by (λ (r : Process × Cut). same_cut r.1 v) k.votes ≤ size s.config.members (says_it (λ u. same_cut u v) k.votes) =
    backed (λ u. same_cut u v) s.config.members k.votes (k.once (λ u. same_cut u v)) (λ r i. let q = k.placed r i in members_placed s r.0 q.0 q.1) in
    evidence.by_votes (says_it (λ u. same_cut u v) k.votes) (omega (arith, many, few))
    (λ p m h. contains_from (taken_in s.me acts) _ (let r = said_it (λ u. same_cut u v) k.votes p h in subst (λ u. Known acts s p (FastVote (current_id s) u)) ((same_cut_decides r.0 v).0 r.2) (k.known (p, r.0) r.1)))

-- ---- a notice decides

deciding_notice : (s : MemberState) (p : ℕ) (b : Ballot) (v u : Cut) → learnt s.learner p b v ≡ Some u → (v ≡ u) × (classic_size s.learner.size ≤ notice_count (after_notice s.learner p b v).notices b v)
unfolding learnt after_notice
deciding_notice s p b v u h = let r = cond_some (completes_notices s.learner p b v) v u h in (r.1, leb-true _ _ (and_parts _ _ r.0).1)

noticed : (acts : List Act) (s : MemberState) (b : Ballot) (v : Cut) (n : ℕ) → NoticesKept acts s → n ≡ length s.config.members → classic_size n ≤ notice_count s.learner.notices b v → Decided acts s v
noticed acts s b v n k same full =
    let many : classic_size (length s.config.members) ≤ count_by (λ (r : Process × (Ballot × Cut)). is_of b v r.1) k.notes = subst (λ m. classic_size m ≤ count_by (λ (r : Process × (Ballot × Cut)). is_of b v r.1) k.notes) same (subst (λ m. classic_size n ≤ m) (k.counts b v) full) in
    let few : count_by (λ (r : Process × (Ballot × Cut)). is_of b v r.1) k.notes ≤ size s.config.members (says_it (is_of b v) k.notes) =
    backed (is_of b v) s.config.members k.notes (k.once b v) (λ r i. let q = k.placed r i in members_placed s r.0 q.0 q.1) in
    evidence.by_notices b (says_it (is_of b v) k.notes) (classic_enough _ _ _ many few)
    (λ p m h. contains_from (taken_in s.me acts) _ (let r = said_it (is_of b v) k.notes p h in subst (λ (x : Ballot × Cut). Known acts s p (Accepted (current_id s) x.0 x.1)) (of_is b v r.0 r.2) (k.known (p, r.0) r.1)))

-- ---- through a member's life

atom_decides : (acts : List Act) (heard : List Message) (s : MemberState) (a : Option Act) (m : Option Message) (t : MemberState) (d : Option Cut) → position_of s.config s.me ≡ Some (own_place s) → Atom acts heard s a m t d → VotesKept acts s → NoticesKept acts s → (u : Cut) → d ≡ Some u → Decided (push acts a) t u
atom_decides acts heard s _ _ _ _ mine (hears_vote from p v known at) k n u e =
    let r = deciding_vote s p v u e in
    let t : MemberState = record (vote_seen s) { fast = hear_vote s.fast p v } in
    let kept = vote_counted acts s from p v known at k in
    subst (Decided acts t) r.0 (voted acts t v kept (r.1 ∙ ap fast_size (k.size ∙ sym kept.size)))
atom_decides acts heard s _ _ _ _ mine (casts v own ok) k n u e =
    let r = deciding_vote s (own_place s) v u e in
    let o : Act = Did (Says Others (FastVote (current_id s) v)) in
    let t : MemberState = record (vote_seen s) { acceptor = after_accept s.acceptor fast_ballot v; voted = true; fast = hear_vote s.fast (own_place s) v } in
    let kept : VotesKept (acts ++ o ∷ []) t = votes_kept acts heard s _ _ t _ mine (casts v own ok) k in
    subst (Decided (acts ++ o ∷ []) t) r.0 (voted (acts ++ o ∷ []) t v kept (r.1 ∙ ap fast_size (k.size ∙ sym kept.size)))
atom_decides acts heard s _ _ _ _ mine (hears_notice from p b v known at) k n u e =
    let r = deciding_notice s p b v u e in
    let t : MemberState = record s { learner = after_notice s.learner p b v } in
    subst (Decided acts t) r.0 (noticed acts t b v s.learner.size (notice_counted acts s from p b v known at n) n.size r.1)
atom_decides acts heard s _ _ _ _ mine (hears_decision from v known) k n u e = evidence.by_decision from (contains_from (taken_in s.me acts) _ (let same : v ≡ u = cc in subst (λ z. Known acts s from (Decision (current_id s) z)) same known))
atom_decides acts heard s _ _ _ _ mine x k n u e = cc

lives_decides : (c : Configuration) (me : Process) (acts : List Act) (heard : List Message) (s : MemberState) (d : Option Cut) → Lives c me acts heard s d → (v : Cut) → d ≡ Some v → Decided acts s v
lives_decides c me _ _ _ _ (enters k at) v e = cc
lives_decides c me _ _ _ _ (does acts heard s a m t d l x) v e = atom_decides acts heard s a m t d (lives_placed c me acts heard s None l) x (lives_votes c me acts heard s None l) (lives_notices c me acts heard s None l) v e
lives_decides c me _ _ _ _ (leaves acts heard s u a l mark) v e = evidence_more s.config s.me acts (acts ++ a ∷ []) v (taken_more s.me acts (Some a)) (lives_decides c me acts heard s (Some u) l v e)

-- who left by a cut has evidence for it
pub lives_evidence : (c : Configuration) (me : Process) (acts : List Act) (heard : List Message) (s : MemberState) (v : Cut) → Lives c me acts heard s (Some v) → Evidence c me acts v
lives_evidence c me acts heard s v l =
    subst (λ p. Evidence c p acts v) (lives_me c me acts heard s (Some v) l)
    (subst (λ d. Evidence d s.me acts v) (lives_config c me acts heard s (Some v) l) (lives_decides c me acts heard s (Some v) l v refl))
