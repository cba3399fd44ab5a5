-- A learner counts who gave notice, and learns once.
use Rattle.std.proofs.Common.{◌≡◌, ℕ, ◌+◌, ◌≤◌, ◌<◌, Bool, true, false, cond, not, ◌||◌, ◌&&◌, ◌==◌, List, [], ◌∷◌, ◌++◌, refl, sym, ap, subst, ◌∙◌, arith, append_assoc, append-nil, Option, Some, None, nat_le}
use Rattle.std.specs.declared.cmp.Ordering.{Ordering}
use Rattle.std.specs.declared.cmp.Ordering.TheVariants.{Less, Equal, Greater}
use Rattle.std.specs.Ordering.{ordering_then, nat_cmp, is_eq, eq_by_cmp}
use Rattle.std.specs.Cmp.{nat_eq_equiv, unsigned_tied, eq_by_cmp_equiv}
use Rattle.std.specs.FinSet as set
use Rattle.std.proofs.lemmas.Bool.{true≢false, and_parts, leb-true, leb-false}
use Rattle.std.proofs.lemmas.List.Elements.{All-head, All-tail, All-cons, All-append}
use Rattle.std.proofs.lemmas.List.FromFn.{length-range_with_len}
use Rattle.rapid_model.specs.Cut.{Cut, cut_cmp, same_cut}
use Rattle.rapid_model.specs.Quorum.{size, classic_size, IsClassic}
use Rattle.rapid_model.specs.Ballot.{Ballot, ballot_cmp, same_ballot}
use Rattle.rapid_model.specs.Learner.{Learner, Notice, notice_cmp, fresh_learner, after_notice, learnt, notice_count, notices_with}
use Rattle.rapid_model.proofs.Orders.{cuts_total, cuts_exact, ballots_total, ballots_exact, notices_total, ballots_decided, same_cut_decides, first_equal, second_equal}
use Rattle.rapid_agreement.specs.Positions.{positions}
use Rattle.rapid_agreement.proofs.Sets.{size-within}
use Rattle.rapid_agreement.proofs.SetLemmas.{insert_known, len_new_kept}
use Rattle.rapid_histories.specs.Notices.{after_notices, learner_after, AreOfMembers, givers, HasClassicQuorum, GiversCount, NoticesComplete, LearnsOnce}
use Rattle.rapid_histories.proofs.Firsts.{size_same, size_more, size_none}
use Rattle.rapid_model.proofs.Logic.{none_if}

-- ---- notices told apart

notices_exact : set.IsAntisymmetric notice_cmp
notices_exact a b e =
    let both = first_equal (ordering_then (ballot_cmp a.0.0 b.0.0) (cut_cmp a.0.1 b.0.1)) (nat_cmp a.1 b.1) e in
    let p : a.0.0 ≡ b.0.0 = ballots_exact _ _ (first_equal (ballot_cmp a.0.0 b.0.0) (cut_cmp a.0.1 b.0.1) both) in
    let q : a.0.1 ≡ b.0.1 = cuts_exact _ _ (second_equal (ballot_cmp a.0.0 b.0.0) (cut_cmp a.0.1 b.0.1) both) in
    let r : a.1 ≡ b.1 = set.nat_cmp-IsAntisymmetric _ _ (second_equal (ordering_then (ballot_cmp a.0.0 b.0.0) (cut_cmp a.0.1 b.0.1)) (nat_cmp a.1 b.1) e) in
    λ i. ((p i, q i), r i)

-- the notice x is of the cut at the ballot
abbrev is_of : Ballot → Cut → Notice → Bool
is_of b v x = same_ballot b x.0.0 && same_cut v x.0.1

is_of_is : (b : Ballot) (v : Cut) (x : Notice) → is_of b v x ≡ true → (b, v) ≡ x.0
is_of_is b v x h =
    let parts = and_parts _ _ h in
    let p : b ≡ x.0.0 = (ballots_decided b x.0.0).0 parts.0 in
    let q : v ≡ x.0.1 = (same_cut_decides v x.0.1).0 parts.1 in
    λ i. (p i, q i)

own : (b : Ballot) (v : Cut) (p : ℕ) → is_of b v ((b, v), p) ≡ true
own b v p = (λ i. (ballots_decided b b).1 refl i && (same_cut_decides v v).1 refl i)

flipped : (b : Ballot) (v : Cut) (x : Notice) → (same_ballot x.0.0 b && same_cut x.0.1 v) ≡ is_of b v x
flipped b v x = λ i. (eq_by_cmp_equiv ballots_total).symm x.0.0 b i && (eq_by_cmp_equiv cuts_total).symm x.0.1 v i

same_notice : (b : Ballot) (v : Cut) (q : ℕ) (x : Notice) → eq_by_cmp notice_cmp ((b, v), q) x ≡ ((q == x.1) && is_of b v x)
same_notice b v q x = by (ballot_cmp b x.0.0) (cut_cmp v x.0.1) (nat_cmp q x.1) ∙ ap (λ t. t && is_of b v x) (unsigned_tied q x.1)
  where
    no : (t : Bool) → false ≡ (t && false)
    no true = refl
    no false = refl

    one : (t : Bool) → t ≡ (t && true)
    one true = refl
    one false = refl

    by : (a c d : Ordering) → is_eq (ordering_then (ordering_then a c) d) ≡ (is_eq d && (is_eq a && is_eq c))
    by Less c d = no (is_eq d)
    by Greater c d = no (is_eq d)
    by Equal Less d = no (is_eq d)
    by Equal Greater d = no (is_eq d)
    by Equal Equal d = one (is_eq d)

givers_push : (notices : List Notice) (x : Notice) (b : Ballot) (v : Cut) (q : ℕ) → givers (notices ++ x ∷ []) b v q ≡ (givers notices b v q || ((q == x.1) && is_of b v x))
givers_push [] x b v q = last ((q == x.1) && is_of b v x)
  where
    last : (t : Bool) → (t || false) ≡ t
    last true = refl
    last false = refl
givers_push (y ∷ ys) x b v q = ap (λ t. ((q == y.1) && is_of b v y) || t) (givers_push ys x b v q) ∙ by ((q == y.1) && is_of b v y) (givers ys b v q) ((q == x.1) && is_of b v x)
  where
    by : (s t u : Bool) → (s || (t || u)) ≡ ((s || t) || u)
    by true t u = refl
    by false t u = refl

-- ---- what a learner keeps of notices

record Keeps (n : ℕ) (notices : List Notice) (l : Learner) : Type 0 where
  many : l.size ≡ n
  given : (b : Ballot) (v : Cut) (q : ℕ) → set.contains l.notices ((b, v), q) ≡ givers notices b v q
  counts : (b : Ballot) (v : Cut) → notice_count l.notices b v ≡ size (positions n) (givers notices b v)
  undecided : l.decided ≡ false → (b : Ballot) (v : Cut) → HasClassicQuorum n notices b v → ⊥
  decided : l.decided ≡ true → (b : Ballot) × (v : Cut) × HasClassicQuorum n notices b v

no_positions : (n : ℕ) (b : Ballot) (v : Cut) → size (positions n) (givers [] b v) ≡ 0
no_positions n b v = size_none (positions n) (givers [] b v) (λ q. refl)

none_kept : (b : Ballot) (v : Cut) → notice_count set.empty b v ≡ 0
none_kept b v =
    ap set.len
    (set.same_set notices_total notices_exact (set.retain set.empty test) set.empty
    (λ q. set.contains-retain set.empty test q (λ x e. ap test (sym (notices_exact q x e)))
    ∙ ap (λ t. t && test q) (set.contains-empty notice_cmp q) ∙ sym (set.contains-empty notice_cmp q)))
    ∙ set.len-empty notice_cmp
  where
    test : Notice → Bool
    test x = same_ballot x.0.0 b && same_cut x.0.1 v

keeps_fresh : (n : ℕ) → Keeps n [] (fresh_learner n)
keeps_fresh n =
    record {
      many = refl;
      given = λ b v q. set.contains-empty notice_cmp ((b, v), q);
      counts = λ b v. none_kept b v ∙ sym (no_positions n b v);
      undecided = λ _ b v h. let none = no_positions n b v in omega (arith, none, h);
      decided = λ h. absurd (true≢false (sym h));
    }

classic_is : (n s : ℕ) (t : ℕ → Bool) → size (positions n) t ≡ s → (IsClassic (positions n) t → classic_size n ≤ s) × (classic_size n ≤ s → IsClassic (positions n) t)
classic_is n s t e = let l = length-range_with_len 0 n in ((λ h. omega (arith, l, e, h)), (λ h. omega (arith, l, e, h)))

stays : (n : ℕ) (notices later : List Notice) (b : Ballot) (v : Cut) → HasClassicQuorum n notices b v → HasClassicQuorum n (notices ++ later) b v
stays n notices later b v quorum =
    let more = size-within (positions n) (givers notices b v) (givers (notices ++ later) b v) (λ q _ h. kept notices q h) in
    omega (arith, quorum, more)
  where
    kept : (xs : List Notice) (q : ℕ) → givers xs b v q ≡ true → givers (xs ++ later) b v q ≡ true
    kept [] q h = absurd (true≢false (sym h))
    kept (y ∷ ys) q h = by ((q == y.1) && is_of b v y) (kept ys q) h
      where
        by : (s : Bool) → (givers ys b v q ≡ true → givers (ys ++ later) b v q ≡ true) → (s || givers ys b v q) ≡ true → (s || givers (ys ++ later) b v q) ≡ true
        by true rest h = refl
        by false rest h = rest h

module _ (n : ℕ) (notices : List Notice) (l : Learner) (p : ℕ) (b : Ballot) (v : Cut) (below : p < n) (k : Keeps n notices l) where
  abbrev more : set.FinSet notice_cmp
  more = notices_with l p b v

  abbrev said : List Notice
  said = notices ++ ((b, v), p) ∷ []

  given_more : (c : Ballot) (u : Cut) (q : ℕ) → set.contains more ((c, u), q) ≡ givers said c u q
  given_more c u q =
      set.contains-insert notices_total l.notices ((b, v), p) ((c, u), q)
      ∙ (λ i. same_notice c u q ((b, v), p) i || k.given c u q i) ∙ swapped ((q == p) && is_of c u ((b, v), p)) (givers notices c u q)
      ∙ sym (givers_push notices ((b, v), p) c u q)
    where
      swapped : (s t : Bool) → (s || t) ≡ (t || s)
      swapped true true = refl
      swapped true false = refl
      swapped false true = refl
      swapped false false = refl

  counts_more : (c : Ballot) (u : Cut) → notice_count more c u ≡ size (positions n) (givers said c u)
  counts_more c u = by (set.contains l.notices ((b, v), p)) refl (is_of c u ((b, v), p)) refl
    where
      -- nothing new for them
      as_before : ((q : ℕ) → givers said c u q ≡ givers notices c u q) → notice_count more c u ≡ notice_count l.notices c u → notice_count more c u ≡ size (positions n) (givers said c u)
      as_before same count = count ∙ k.counts c u ∙ sym (size_same (positions n) (givers said c u) (givers notices c u) same)

      known_already : set.contains l.notices ((b, v), p) ≡ true → (q : ℕ) → givers said c u q ≡ givers notices c u q
      known_already e q = sym (given_more c u q) ∙ ap (λ s. set.contains s ((c, u), q)) (insert_known notices_total notices_exact l.notices ((b, v), p) e) ∙ k.given c u q

      none : (s t : Bool) → (s || (t && false)) ≡ s
      none true t = refl
      none false true = refl
      none false false = refl

      by : (s : Bool) → set.contains l.notices ((b, v), p) ≡ s → (t : Bool) → is_of c u ((b, v), p) ≡ t → notice_count more c u ≡ size (positions n) (givers said c u)
      by true e t f = as_before (known_already e) (ap (λ s. notice_count s c u) (insert_known notices_total notices_exact l.notices ((b, v), p) e))
      by false e false f =
          as_before (λ q. givers_push notices ((b, v), p) c u q ∙ ap (λ t. givers notices c u q || ((q == p) && t)) f ∙ none (givers notices c u q) (q == p))
          (let count = len_new_kept notices_total notices_exact l.notices ((b, v), p) (λ x. same_ballot x.0.0 c && same_cut x.0.1 u) e
          ∙ ap (λ t. cond t 1 0 + notice_count l.notices c u) (flipped c u ((b, v), p) ∙ f) in omega (arith, count))
      by false e true f =
          let here : givers notices c u p ≡ false = sym (k.given c u p) ∙ ap (λ x. set.contains l.notices (x, p)) (is_of_is c u ((b, v), p) f) ∙ e in
          let count = len_new_kept notices_total notices_exact l.notices ((b, v), p) (λ x. same_ballot x.0.0 c && same_cut x.0.1 u) e
          ∙ ap (λ t. cond t 1 0 + notice_count l.notices c u) (flipped c u ((b, v), p) ∙ f) in
          let one = size_more (givers notices c u) (givers said c u) p true here
          (λ q. givers_push notices ((b, v), p) c u q ∙ (λ i. givers notices c u q || (nat_eq_equiv.symm q p i && f i))) n below in
          let was = k.counts c u in
          omega (arith, count, one, was)

  -- whether the notice completes a quorum
  abbrev full : Bool
  full = nat_le (classic_size l.size) (notice_count more b v)

  full_is : full ≡ true → HasClassicQuorum n said b v
  full_is h =
      (classic_is n _ (givers said b v) (sym (counts_more b v))).1
      (subst (λ m. classic_size m ≤ notice_count more b v) k.many (leb-true (classic_size l.size) (notice_count more b v) h))

  not_full : full ≡ false → HasClassicQuorum n said b v → ⊥
  not_full h quorum =
      let much = (classic_is n _ (givers said b v) (sym (counts_more b v))).0 quorum in
      let few = leb-false (classic_size l.size) (notice_count more b v) h in
      let many = ap classic_size k.many in
      omega (arith, much, few, many)

  -- if none was complete and this is not, none is
  none_full : full ≡ false → ((c : Ballot) (u : Cut) → HasClassicQuorum n notices c u → ⊥) → (c : Ballot) (u : Cut) → HasClassicQuorum n said c u → ⊥
  none_full h was c u quorum = by (is_of c u ((b, v), p)) refl
    where
      none : (s t : Bool) → (s || (t && false)) ≡ s
      none true t = refl
      none false true = refl
      none false false = refl

      by : (t : Bool) → is_of c u ((b, v), p) ≡ t → ⊥
      by true f =
          let same = is_of_is c u ((b, v), p) f in
          not_full h (subst (λ (x : Ballot × Cut). HasClassicQuorum n said x.0 x.1) same quorum)
      by false f =
          let as_before = size_same (positions n) (givers said c u) (givers notices c u)
          (λ q. givers_push notices ((b, v), p) c u q ∙ ap (λ t. givers notices c u q || ((q == p) && t)) f ∙ none (givers notices c u q) (q == p)) in
          was c u (omega (arith, quorum, as_before))

  keeps_notice : Keeps n said (after_notice l p b v)
  unfolding after_notice
  keeps_notice =
      record {
        many = k.many;
        given = given_more;
        counts = counts_more;
        undecided = λ h. no l.decided refl full refl h;
        decided = λ h. yes l.decided refl full refl h;
      }
    where
      no : (d : Bool) → l.decided ≡ d → (f : Bool) → full ≡ f → (d || (not d && f)) ≡ false → (c : Ballot) (u : Cut) → HasClassicQuorum n said c u → ⊥
      no true e f g h = absurd (true≢false h)
      no false e true g h = absurd (true≢false h)
      no false e false g h = none_full g (k.undecided e)

      yes : (d : Bool) → l.decided ≡ d → (f : Bool) → full ≡ f → (d || (not d && f)) ≡ true → (c : Ballot) × (u : Cut) × HasClassicQuorum n said c u
      yes true e f g h = let was = k.decided e in (was.0, was.1, stays n notices (((b, v), p) ∷ []) was.0 was.1 was.2)
      yes false e true g h = (b, v, full_is g)
      yes false e false g h = absurd (true≢false (sym h))

  teaches : (w : Cut) → learnt l p b v ≡ Some w → (w ≡ v) × (HasClassicQuorum n said b v × ((c : Ballot) (u : Cut) → HasClassicQuorum n notices c u → ⊥))
  unfolding learnt
  teaches w e = by l.decided refl full refl e
    where
      by : (d : Bool) → l.decided ≡ d → (f : Bool) → full ≡ f → cond (not d && f) (Some v) None ≡ Some w → (w ≡ v) × (HasClassicQuorum n said b v × ((c : Ballot) (u : Cut) → HasClassicQuorum n notices c u → ⊥))
      by true g f h e = absurd (cc)
      by false g false h e = absurd (cc)
      by false g true h e = (cc, (full_is h, k.undecided g))

  taught : HasClassicQuorum n said b v → ((c : Ballot) (u : Cut) → HasClassicQuorum n notices c u → ⊥) → learnt l p b v ≡ Some v
  unfolding learnt
  taught quorum none = by l.decided refl full refl
    where
      by : (d : Bool) → l.decided ≡ d → (f : Bool) → full ≡ f → cond (not d && f) (Some v) None ≡ Some v
      by true g f h = let was = k.decided g in absurd (none was.0 was.1 was.2)
      by false g false h = absurd (not_full h quorum)
      by false g true h = refl

keeps_more : (n : ℕ) (notices later : List Notice) (l : Learner) → AreOfMembers n later → Keeps n notices l → Keeps n (notices ++ later) (after_notices l later)
keeps_more n notices [] l of k = subst (λ xs. Keeps n xs l) (sym (append-nil notices)) k
keeps_more n notices (x ∷ xs) l of k =
    subst (λ ys. Keeps n ys (after_notices (after_notice l x.1 x.0.0 x.0.1) xs)) (append_assoc notices (x ∷ []) xs)
    (keeps_more n (notices ++ x ∷ []) xs (after_notice l x.1 x.0.0 x.0.1) (All-tail (λ (y : Notice). y.1 < n) x xs of)
    (keeps_notice n notices l x.1 x.0.0 x.0.1 (All-head (λ (y : Notice). y.1 < n) x xs of) k))

keeps : (n : ℕ) (notices : List Notice) → AreOfMembers n notices → Keeps n notices (learner_after n notices)
keeps n notices of = keeps_more n [] notices (fresh_learner n) of (keeps_fresh n)

pub givers_count : GiversCount
givers_count n notices b v of = (keeps n notices of).counts b v

pub notices_complete : NoticesComplete
notices_complete n notices p b v w of below = (
  teaches n notices (learner_after n notices) p b v below (keeps n notices of) w,
  λ h. taught n notices (learner_after n notices) p b v below (keeps n notices of) h.1.0 h.1.1 ∙ ap Some (sym h.0),
)

pub learns_once : LearnsOnce
learns_once n notices later p q b c v w u of of_later below_p below_q learned =
    none_if _ (λ z e. (teaches n all (learner_after n all) q c u below_q (keeps n all of_all) z e).1.1 b v has)
  where
    all : List Notice
    all = notices ++ ((b, v), p) ∷ later

    of_all : AreOfMembers n all
    of_all = All-append (λ (y : Notice). y.1 < n) notices (((b, v), p) ∷ later) of (All-cons (λ (y : Notice). y.1 < n) ((b, v), p) later below_p of_later)

    has : HasClassicQuorum n all b v
    has =
        subst (λ xs. HasClassicQuorum n xs b v) (append_assoc notices (((b, v), p) ∷ []) later)
        (stays n (notices ++ ((b, v), p) ∷ []) later b v (teaches n notices (learner_after n notices) p b v below_p (keeps n notices of) w learned).1.0)
