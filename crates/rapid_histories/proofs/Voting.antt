-- A fast round counts first votes, and decides once.
use Rattle.std.proofs.Common.{◌≡◌, ℕ, ◌+◌, ◌*◌, ◌<◌, Bool, true, false, cond, ◌||◌, ◌&&◌, ◌==◌, List, [], ◌∷◌, ◌++◌, refl, sym, ap, subst, ◌∙◌, arith, append_assoc, append-nil, Option, Some, None, inl, inr, ◌≤◌, eqb-true, eq-eqb, unwrap_or}
use Rattle.std.specs.Ordering.{nat_cmp}
use Rattle.std.specs.FinSet as set
use Rattle.std.specs.FinMap as map
use Rattle.std.proofs.lemmas.Bool.{true≢false, cases_lt}
use Rattle.std.proofs.lemmas.List.Elements.{All-head, All-tail, All-cons, All-append}
use Rattle.std.proofs.lemmas.List.FromFn.{length-range_with_len}
use Rattle.rapid_model.specs.Cut.{Cut, cut_cmp, same_cut}
use Rattle.rapid_model.specs.Quorum.{size, both, fast_size, IsFast}
use Rattle.rapid_model.specs.FastRound.{FastRound, fresh_round, hear_vote, fast_decision, count_of}
use Rattle.rapid_model.proofs.Orders.{same_cut_decides}
use Rattle.rapid_model.proofs.Rounds.{hear_vote-heard, hear_vote-new, size-hear_vote, heard-hear_vote, count_of-one_more}
use Rattle.rapid_agreement.specs.Positions.{positions}
use Rattle.rapid_agreement.proofs.Sets.{size-both, size-within}
use Rattle.rapid_histories.specs.Firsts.{passes, first, OfMembers}
use Rattle.rapid_histories.specs.Votes.{after_votes, round_after, voters, HasFastQuorum, FirstVotesCount, VotesComplete, DecidesOnce}
use Rattle.rapid_histories.proofs.Firsts.{spoke, spoke_push, size_known, size_new, size_none, firsts_stay}
use Rattle.rapid_model.proofs.Logic.{none_if}

-- what the round keeps of votes
record Keeps (n : ℕ) (votes : List (ℕ × Cut)) (f : FastRound) : Type 0 where
  many : f.size ≡ n
  heard : (q : ℕ) → set.contains f.heard q ≡ spoke votes q
  counts : (v : Cut) → count_of f.counts v ≡ size (positions n) (voters votes v)

keeps_fresh : (n : ℕ) → Keeps n [] (fresh_round n)
keeps_fresh n =
    record {
      many = refl;
      heard = λ q. set.contains-empty nat_cmp q;
      counts = λ v. ap (λ o. unwrap_or o 0) (map.get-empty cut_cmp v) ∙ sym (size_none (positions n) (voters [] v) (λ q. refl));
    }

flipped : (a b : Bool) → (a || b) ≡ (b || a)
flipped true true = refl
flipped true false = refl
flipped false true = refl
flipped false false = refl

keeps_vote : (n : ℕ) (votes : List (ℕ × Cut)) (f : FastRound) (x : ℕ × Cut) → x.0 < n → Keeps n votes f → Keeps n (votes ++ x ∷ []) (hear_vote f x.0 x.1)
keeps_vote n votes f x below k =
    record {
      many = size-hear_vote f x.0 x.1 ∙ k.many;
      heard = λ q. heard-hear_vote f x.0 q x.1 ∙ ap (λ b. (x.0 == q) || b) (k.heard q) ∙ flipped (x.0 == q) (spoke votes q) ∙ sym (spoke_push votes x q);
      counts = λ v. by v (set.contains f.heard x.0) refl;
    }
  where
    by : (v : Cut) (b : Bool) → set.contains f.heard x.0 ≡ b → count_of (hear_vote f x.0 x.1).counts v ≡ size (positions n) (voters (votes ++ x ∷ []) v)
    by v true e =
        ap (λ (g : FastRound). count_of g.counts v) (hear_vote-heard f x.0 x.1 e) ∙ k.counts v
        ∙ sym (size_known (λ u. same_cut u v) n votes x (sym (k.heard x.0) ∙ e))
    by v false e =
        ap (λ (g : FastRound). count_of g.counts v) (hear_vote-new f x.0 x.1 e) ∙ count_of-one_more f.counts x.1 v
        ∙ ap (λ (m : ℕ). m + cond (same_cut x.1 v) 1 0) (k.counts v)
        ∙ sym (size_new (λ u. same_cut u v) n votes x (sym (k.heard x.0) ∙ e) below)

keeps_more : (n : ℕ) (votes more : List (ℕ × Cut)) (f : FastRound) → OfMembers n more → Keeps n votes f → Keeps n (votes ++ more) (after_votes f more)
keeps_more n votes [] f of k = subst (λ l. Keeps n l f) (sym (append-nil votes)) k
keeps_more n votes (x ∷ xs) f of k =
    subst (λ l. Keeps n l (after_votes (hear_vote f x.0 x.1) xs)) (append_assoc votes (x ∷ []) xs)
    (keeps_more n (votes ++ x ∷ []) xs (hear_vote f x.0 x.1) (All-tail (λ (y : ℕ × Cut). y.0 < n) x xs of) (keeps_vote n votes f x (All-head (λ (y : ℕ × Cut). y.0 < n) x xs of) k))

keeps : (n : ℕ) (votes : List (ℕ × Cut)) → OfMembers n votes → Keeps n votes (round_after n votes)
keeps n votes of = keeps_more n [] votes (fresh_round n) of (keeps_fresh n)

pub first_votes_count : FirstVotesCount
first_votes_count n votes v of = (keeps n votes of).counts v

-- ---- the vote that completes a quorum

fast_is : (n s : ℕ) (t : ℕ → Bool) → size (positions n) t ≡ s → (IsFast (positions n) t → 3 * n < 4 * s) × (3 * n < 4 * s → IsFast (positions n) t)
fast_is n s t e = let l = length-range_with_len 0 n in ((λ h. omega (arith, l, e, h)), (λ h. omega (arith, l, e, h)))

module _ (n : ℕ) (votes : List (ℕ × Cut)) (p : ℕ) (v : Cut) (of : OfMembers n votes) (below : p < n) where
  abbrev now : FastRound
  now = round_after n votes

  before : size (positions n) (voters votes v) ≡ count_of now.counts v
  before = sym ((keeps n votes of).counts v)

  after : spoke votes p ≡ false → size (positions n) (voters (votes ++ (p, v) ∷ []) v) ≡ count_of now.counts v + 1
  after new = size_new (λ u. same_cut u v) n votes (p, v) new below ∙ (λ i. before i + cond ((same_cut_decides v v).1 refl i) 1 0)

  decides : (w : Cut) → fast_decision now p v ≡ Some w → (w ≡ v) × (HasFastQuorum n (votes ++ (p, v) ∷ []) v × (HasFastQuorum n votes v → ⊥))
  unfolding fast_decision
  decides w e = by (set.contains now.heard p) refl (count_of now.counts v + 1 == fast_size now.size) refl e
    where
      by : (a : Bool) → set.contains now.heard p ≡ a → (b : Bool) → (count_of now.counts v + 1 == fast_size now.size) ≡ b → cond a None (cond b (Some v) None) ≡ Some w
          → (w ≡ v) × (HasFastQuorum n (votes ++ (p, v) ∷ []) v × (HasFastQuorum n votes v → ⊥))
      by true g b h e = absurd (cc)
      by false g false h e = absurd (cc)
      by false g true h e =
          let count : count_of now.counts v + 1 ≡ fast_size n = eqb-true _ _ h ∙ ap fast_size (keeps n votes of).many in
          let more = after (sym ((keeps n votes of).heard p) ∙ g) in
          (cc, ((fast_is n _ (voters (votes ++ (p, v) ∷ []) v) more).1 (omega (arith, count)), λ h. let was = (fast_is n _ (voters votes v) before).0 h in omega (arith, count, was)))

  completes : HasFastQuorum n (votes ++ (p, v) ∷ []) v → (HasFastQuorum n votes v → ⊥) → fast_decision now p v ≡ Some v
  unfolding fast_decision
  completes quorum none = by (spoke votes p) refl
    where
      by : (b : Bool) → spoke votes p ≡ b → cond (set.contains now.heard p) None (cond (count_of now.counts v + 1 == fast_size now.size) (Some v) None) ≡ Some v
      by true e = absurd (none ((fast_is n _ (voters votes v) refl).1 ((fast_is n _ (voters (votes ++ (p, v) ∷ []) v) (size_known (λ u. same_cut u v) n votes (p, v) e)).0 quorum)))
      by false e =
          let was : 3 * n < 4 * count_of now.counts v → ⊥ = λ h. none ((fast_is n _ (voters votes v) before).1 h) in
          let is = (fast_is n _ (voters (votes ++ (p, v) ∷ []) v) (after e)).0 quorum in
          let count : count_of now.counts v + 1 ≡ fast_size n = reached (count_of now.counts v) was is in
          ap (λ b. cond b None (cond (count_of now.counts v + 1 == fast_size now.size) (Some v) None)) ((keeps n votes of).heard p ∙ e)
          ∙ ap (λ b. cond b (Some v) None) (eq-eqb _ _ (count ∙ sym (ap fast_size (keeps n votes of).many)))
        where
          reached : (c : ℕ) → (3 * n < 4 * c → ⊥) → 3 * n < 4 * (c + 1) → c + 1 ≡ fast_size n
          reached c was is = let no = below_or c was in omega (arith, no, is)
            where
              below_or : (c : ℕ) → (3 * n < 4 * c → ⊥) → 4 * c ≤ 3 * n
              below_or c was = elim (cases_lt (3 * n) (4 * c)) [ inl h ↦ absurd (was h) | inr h ↦ h ]

pub votes_complete : VotesComplete
votes_complete n votes p v w of below =
    (decides n votes p v of below w, λ h. completes n votes p v of below h.1.0 h.1.1 ∙ ap Some (sym h.0))

-- ---- once

stays : (n : ℕ) (votes later : List (ℕ × Cut)) (v : Cut) → HasFastQuorum n votes v → HasFastQuorum n (votes ++ later) v
stays n votes later v quorum =
    let more = size-within (positions n) (voters votes v) (voters (votes ++ later) v) (λ q _ h. firsts_stay (λ u. same_cut u v) votes later q h) in
    omega (arith, quorum, more)

one_first : (votes : List (ℕ × Cut)) (v u : Cut) → same_cut u v ≡ false → (q : ℕ) → both (voters votes v) (voters votes u) q ≡ false
one_first votes v u other q = by (first votes q)
  where
    not_both : (c : Cut) (a b : Bool) → same_cut c v ≡ a → same_cut c u ≡ b → (a && b) ≡ false
    not_both c false b e f = refl
    not_both c true false e f = refl
    not_both c true true e f =
        let same : u ≡ v = sym ((same_cut_decides c u).0 f) ∙ (same_cut_decides c v).0 e in
        absurd (true≢false (sym ((same_cut_decides u v).1 same) ∙ other))

    by : (o : Option Cut) → (passes (λ c. same_cut c v) o && passes (λ c. same_cut c u) o) ≡ false
    by None = refl
    by (Some c) = not_both c (same_cut c v) (same_cut c u) refl refl

one_quorum : (n : ℕ) (votes : List (ℕ × Cut)) (v u : Cut) → HasFastQuorum n votes v → HasFastQuorum n votes u → same_cut u v ≡ false → ⊥
one_quorum n votes v u mine others other =
    let l = length-range_with_len 0 n in
    let none = size_none (positions n) (both (voters votes v) (voters votes u)) (one_first votes v u other) in
    let all = size-both (positions n) (voters votes v) (voters votes u) in
    omega (arith, mine, others, none, all, l)

pub decides_once : DecidesOnce
decides_once n votes later p q v w u of of_later below_p below_q decided = none_if _ (λ z e. never (decides n all q u of_all below_q z e) (same_cut u v) refl)
  where
    all : List (ℕ × Cut)
    all = votes ++ (p, v) ∷ later

    together : votes ++ (p, v) ∷ later ≡ (votes ++ (p, v) ∷ []) ++ later
    together = sym (append_assoc votes ((p, v) ∷ []) later)

    of_all : OfMembers n all
    of_all = All-append (λ (y : ℕ × Cut). y.0 < n) votes ((p, v) ∷ later) of (All-cons (λ (y : ℕ × Cut). y.0 < n) (p, v) later below_p of_later)

    has : HasFastQuorum n all v
    has = subst (λ l. HasFastQuorum n l v) (sym together) (stays n (votes ++ (p, v) ∷ []) later v (decides n votes p v of below_p w decided).1.0)

    never : {z : Cut} → (z ≡ u) × (HasFastQuorum n (all ++ (q, u) ∷ []) u × (HasFastQuorum n all u → ⊥)) → (b : Bool) → same_cut u v ≡ b → ⊥
    never h true e = h.1.1 (subst (HasFastQuorum n all) (sym ((same_cut_decides u v).0 e)) has)
    never h false e = one_quorum n (all ++ (q, u) ∷ []) v u (stays n all ((q, u) ∷ []) v has) h.1.0 e
