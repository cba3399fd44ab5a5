-- A coordinator counts first promises, and asks once a ballot.
use Rattle.std.proofs.Common.{◌≡◌, ℕ, ◌+◌, ◌*◌, ◌<◌, Bool, true, false, cond, not, ◌||◌, ◌&&◌, ◌==◌, List, [], ◌∷◌, ◌++◌, length, count_by, nat_eq, refl, sym, ap, subst, ◌∙◌, inl, inr, arith, append_assoc, append-nil, Option, Some, None, eqb-true, eq-eqb}
use Rattle.std.specs.List.{list_any, cons_option}
use Rattle.std.specs.Cmp.{nat_eq_equiv}
use Rattle.std.specs.FinSet as set
use Rattle.std.proofs.lemmas.Bool.{true≢false, and_parts, cases_lt, not-true}
use Rattle.std.proofs.lemmas.List.Elements.{All-head, All-tail, All-cons, All-append}
use Rattle.std.proofs.lemmas.List.FromFn.{length-range_with_len}
use Rattle.rapid_model.specs.Cut.{Cut}
use Rattle.rapid_model.specs.Quorum.{size, classic_size, IsClassic}
use Rattle.rapid_model.specs.Ballot.{Ballot, Vote, same_ballot}
use Rattle.rapid_model.specs.Coordinator.{Coordinator, begun, after_report, accept_cut, value_of, counts_promise, completes_promises, is_ballot}
use Rattle.rapid_model.proofs.Orders.{ballots_decided}
use Rattle.rapid_model.proofs.Lists.{In}
use Rattle.rapid_agreement.specs.Positions.{positions}
use Rattle.rapid_agreement.specs.Asking.{Report}
use Rattle.rapid_agreement.proofs.Sets.{size-cons, size-within}
use Rattle.rapid_agreement.proofs.Promises.{reports, Tops, Keeps, keeps_begun, keeps_known, keeps_new}
use Rattle.rapid_histories.specs.Firsts.{passes, first, firsts, OfMembers}
use Rattle.rapid_histories.specs.Promises.{Given, after_given, promised_at, promisers, is_vote_for, reporters, TopIsOf, HasMajority, PromisesCount, PromisesComplete, RequestsOnce}
use Rattle.rapid_histories.proofs.Firsts.{spoke, spoke_push, first_push, silent, size_same, size_known, size_new, firsts_stay}
use Rattle.rapid_model.proofs.Logic.{none_if}

-- ---- the promises of the ballot

abbrev of_ballot : Ballot → Given → Option Report
of_ballot b x = cond (same_ballot b x.1.0) (Some (x.0, x.1.1)) None

promised-append : (b : Ballot) (xs ys : List Given) → promised_at b (xs ++ ys) ≡ promised_at b xs ++ promised_at b ys
promised-append b [] ys = refl
promised-append b (x ∷ xs) ys = by (of_ballot b x) (promised-append b xs ys)
  where
    by : (o : Option Report) → promised_at b (xs ++ ys) ≡ promised_at b xs ++ promised_at b ys
        → cons_option o (promised_at b (xs ++ ys)) ≡ cons_option o (promised_at b xs) ++ promised_at b ys
    by None rest = rest
    by (Some r) rest = ap (λ l. r ∷ l) rest

promised_here : (b : Ballot) (given : List Given) (x : Given) → same_ballot b x.1.0 ≡ true → promised_at b (given ++ x ∷ []) ≡ promised_at b given ++ (x.0, x.1.1) ∷ []
promised_here b given x same = promised-append b given (x ∷ []) ∙ ap (λ t. promised_at b given ++ cons_option (cond t (Some (x.0, x.1.1)) None) []) same

promised_elsewhere : (b : Ballot) (given : List Given) (x : Given) → same_ballot b x.1.0 ≡ false → promised_at b (given ++ x ∷ []) ≡ promised_at b given
promised_elsewhere b given x other =
    promised-append b given (x ∷ []) ∙ ap (λ t. promised_at b given ++ cons_option (cond t (Some (x.0, x.1.1)) None) []) other ∙ append-nil (promised_at b given)

after-append : (c : Coordinator) (xs ys : List Given) → after_given c (xs ++ ys) ≡ after_given (after_given c xs) ys
after-append c [] ys = refl
after-append c (x ∷ xs) ys = after-append (after_report c x.0 x.1.0 x.1.1) xs ys

-- ---- the first promises, as a list in which each position stands once

record Counted (n : ℕ) (b : Ballot) (c : Coordinator) (said : List Report) : Type 0 where
  ones : List Report
  keeps : Keeps n b c ones
  heard : (q : ℕ) → set.contains c.heard q ≡ spoke said q
  listed : (q : ℕ) (vote : Option (Vote Cut)) → In ones (q, vote) → first said q ≡ Some vote
  lists : (q : ℕ) (vote : Option (Vote Cut)) → first said q ≡ Some vote → In ones (q, vote)
  sizes : (test : Option (Vote Cut) → Bool) → size (positions n) (firsts test said) ≡ count_by (λ y. test y.1) ones

counted_begun : (c : Coordinator) (b : Ballot) → Counted c.size b (begun c b) []
counted_begun c b =
    record {
      ones = [];
      keeps = keeps_begun c.size c b refl;
      heard = (keeps_begun c.size c b refl).heard;
      listed = λ q vote i. absurd i;
      lists = λ q vote e. absurd (cc);
      sizes = λ test. none (positions c.size);
    }
  where
    none : (ps : List ℕ) → size ps (λ q. false) ≡ 0
    none [] = refl
    none (p ∷ ps) = let more = size-cons p ps (λ q. false) in let rest = none ps in omega (arith, more, rest)

first_known : (said : List Report) (x : Report) → spoke said x.0 ≡ true → (q : ℕ) → first (said ++ x ∷ []) q ≡ first said q
first_known said x known q = first_push said x q ∙ by (spoke said q) refl (x.0 == q) refl
  where
    by : (s : Bool) → spoke said q ≡ s → (t : Bool) → (x.0 == q) ≡ t → cond s (first said q) (cond t (Some x.1) None) ≡ first said q
    by true e t f = refl
    by false e true f = absurd (true≢false (sym known ∙ ap (spoke said) (eqb-true x.0 q f) ∙ e))
    by false e false f = sym (silent said q e)

module _ (n : ℕ) (b : Ballot) (c : Coordinator) (said : List Report) (k : Counted n b c said) (p : ℕ) (vote : Option (Vote Cut)) (below : p < n) where
  counted_known : set.contains c.heard p ≡ true → Counted n b (after_report c p b vote) (said ++ (p, vote) ∷ [])
  counted_known h =
      let was : spoke said p ≡ true = sym (k.heard p) ∙ h in
      let now = keeps_known n b c k.ones k.keeps p vote below h in
      record {
        ones = k.ones;
        keeps = now;
        heard = λ q. now.heard q ∙ sym (k.keeps.heard q) ∙ k.heard q ∙ sym (spoke_push said (p, vote) q ∙ no_more q was);
        listed = λ q w i. first_known said (p, vote) was q ∙ k.listed q w i;
        lists = λ q w e. k.lists q w (sym (first_known said (p, vote) was q) ∙ e);
        sizes = λ test. size_known test n said (p, vote) was ∙ k.sizes test;
      }
    where
      no_more : (q : ℕ) → spoke said p ≡ true → (spoke said q || (p == q)) ≡ spoke said q
      no_more q was = by (spoke said q) refl (p == q) refl
        where
          by : (s : Bool) → spoke said q ≡ s → (t : Bool) → (p == q) ≡ t → (s || t) ≡ s
          by true e t f = refl
          by false e true f = absurd (true≢false (sym was ∙ ap (spoke said) (eqb-true p q f) ∙ e))
          by false e false f = refl

  counted_new : set.contains c.heard p ≡ false → Counted n b (after_report c p b vote) (said ++ (p, vote) ∷ [])
  counted_new h =
      record {
        ones = (p, vote) ∷ k.ones;
        keeps = now;
        heard = λ q. now.heard q ∙ (λ i. nat_eq_equiv.symm q p i || before q i) ∙ swapped (p == q) (spoke said q) ∙ sym (spoke_push said (p, vote) q);
        listed = λ q w i. elim i [ inl e ↦ here q w e | inr old ↦ later q w (k.listed q w old) ];
        lists = λ q w e. back q w (spoke said q) refl (p == q) refl (sym (first_push said (p, vote) q) ∙ e);
        sizes = λ test.
            let one = size_new test n said (p, vote) silent_before below in
            let old = k.sizes test in
            let more = size-cons (p, vote) k.ones (λ y. test y.1) in
            omega (arith, one, old, more);
      }
    where
      now : Keeps n b (after_report c p b vote) ((p, vote) ∷ k.ones)
      now = keeps_new n b c k.ones k.keeps p vote below h

      silent_before : spoke said p ≡ false
      silent_before = sym (k.heard p) ∙ h

      before : (q : ℕ) → list_any (λ (o : Report). nat_eq q o.0) k.ones ≡ spoke said q
      before q = sym (k.keeps.heard q) ∙ k.heard q

      swapped : (s t : Bool) → (s || t) ≡ (t || s)
      swapped true true = refl
      swapped true false = refl
      swapped false true = refl
      swapped false false = refl

      here : (q : ℕ) (w : Option (Vote Cut)) → ◌≡◌ {A = Report} (p, vote) (q, w) → first (said ++ (p, vote) ∷ []) q ≡ Some w
      here q w e =
          let same : p ≡ q = ap (λ (x : Report). x.0) e in
          let quiet : spoke said q ≡ false = ap (spoke said) (sym same) ∙ silent_before in
          first_push said (p, vote) q ∙ (λ i. cond (quiet i) (first said q) (cond (eq-eqb p q same i) (Some vote) None)) ∙ ap (λ (x : Report). Some x.1) e

      later : (q : ℕ) (w : Option (Vote Cut)) → first said q ≡ Some w → first (said ++ (p, vote) ∷ []) q ≡ Some w
      later q w e = first_push said (p, vote) q ∙ by (spoke said q) refl
        where
          by : (s : Bool) → spoke said q ≡ s → cond s (first said q) (cond (p == q) (Some vote) None) ≡ Some w
          by true f = e
          by false f = absurd (cc (silent said q f))

      back : (q : ℕ) (w : Option (Vote Cut)) (s : Bool) → spoke said q ≡ s → (t : Bool) → (p == q) ≡ t → cond s (first said q) (cond t (Some vote) None) ≡ Some w → In ((p, vote) ∷ k.ones) (q, w)
      back q w true e t f g = inr (k.lists q w g)
      back q w false e true f g = let same : vote ≡ w = cc in inl (λ i. (eqb-true p q f i, same i))
      back q w false e false f g = absurd (cc)

  counted_next : Counted n b (after_report c p b vote) (said ++ (p, vote) ∷ [])
  counted_next = by (set.contains c.heard p) refl
    where
      by : (s : Bool) → set.contains c.heard p ≡ s → Counted n b (after_report c p b vote) (said ++ (p, vote) ∷ [])
      by true h = counted_known h
      by false h = counted_new h

-- a promise of another ballot is ignored
passed_over : (c : Coordinator) (p : ℕ) (b at : Ballot) (vote : Option (Vote Cut)) → c.ballot ≡ Some b → same_ballot b at ≡ false → after_report c p at vote ≡ c
unfolding after_report
passed_over c p b at vote mine other =
    rw (ap (λ o. is_ballot o at && not (set.contains c.heard p)) mine ∙ ap (λ t. t && not (set.contains c.heard p)) other) refl

counted_report : (n : ℕ) (b : Ballot) (c : Coordinator) (given : List Given) (x : Given) → x.0 < n → Counted n b c (promised_at b given) → Counted n b (after_report c x.0 x.1.0 x.1.1) (promised_at b (given ++ x ∷ []))
counted_report n b c given x below k = by (same_ballot b x.1.0) refl
  where
    by : (t : Bool) → same_ballot b x.1.0 ≡ t → Counted n b (after_report c x.0 x.1.0 x.1.1) (promised_at b (given ++ x ∷ []))
    by true e =
        let at : b ≡ x.1.0 = (ballots_decided b x.1.0).0 e in
        subst (λ l. Counted n b (after_report c x.0 x.1.0 x.1.1) l) (sym (promised_here b given x e))
        (subst (λ (a : Ballot). Counted n b (after_report c x.0 a x.1.1) (promised_at b given ++ (x.0, x.1.1) ∷ [])) at
        (counted_next n b c (promised_at b given) k x.0 x.1.1 below))
    by false e =
        subst (λ l. Counted n b (after_report c x.0 x.1.0 x.1.1) l) (sym (promised_elsewhere b given x e))
        (subst (λ d. Counted n b d (promised_at b given)) (sym (passed_over c x.0 b x.1.0 x.1.1 k.keeps.ballot e)) k)

counted_more : (n : ℕ) (b : Ballot) (c : Coordinator) (given later : List Given) → OfMembers n later → Counted n b c (promised_at b given) → Counted n b (after_given c later) (promised_at b (given ++ later))
counted_more n b c given [] of k = subst (λ l. Counted n b c (promised_at b l)) (sym (append-nil given)) k
counted_more n b c given (x ∷ xs) of k =
    subst (λ l. Counted n b (after_given (after_report c x.0 x.1.0 x.1.1) xs) (promised_at b l)) (append_assoc given (x ∷ []) xs)
    (counted_more n b (after_report c x.0 x.1.0 x.1.1) (given ++ x ∷ []) xs (All-tail (λ (y : Given). y.0 < n) x xs of)
    (counted_report n b c given x (All-head (λ (y : Given). y.0 < n) x xs of) k))

counted : (c : Coordinator) (b : Ballot) (given : List Given) → OfMembers c.size given → Counted c.size b (after_given (begun c b) given) (promised_at b given)
counted c b given of = counted_more c.size b (begun c b) [] given of (counted_begun c b)

-- ---- what is counted

count_all : (ys : List Report) → count_by (λ (y : Report). true) ys ≡ length ys
count_all [] = refl
count_all (y ∷ ys) = let more = size-cons y ys (λ (z : Report). true) in let rest = count_all ys in omega (arith, more, rest)

same_test : (t : Ballot) (v : Cut) (o : Option (Option (Vote Cut))) → passes (reports t v) o ≡ passes (is_vote_for t v) o
same_test t v None = refl
same_test t v (Some None) = refl
same_test t v (Some (Some u)) = refl

module _ (n : ℕ) (b : Ballot) (c : Coordinator) (given : List Given) (k : Counted n b c (promised_at b given)) where
  promisers_heard : set.len c.heard ≡ size (positions n) (promisers b given)
  promisers_heard = k.keeps.len ∙ sym (k.sizes (λ _. true) ∙ count_all k.ones)

  tops_of : (top : Option Ballot) → Tops top c.counts k.ones → TopIsOf n b given top c.counts
  tops_of None h = ((λ p u r. absurd (some_not_none (h.0 (p, Some u) (k.lists p (Some u) r)))), h.1)
    where
      some_not_none : {u : Vote Cut} → Some u ≡ None → ⊥
      some_not_none e = cc
  tops_of (Some t) h = (
    (h.who, record { ballot = t; value = h.value }, (k.listed h.who _ h.there, refl)),
    (
      λ p u r. h.upto p u (k.lists p (Some u) r),
      λ v. h.counted v ∙ sym (k.sizes (reports t v))
          ∙ size_same (positions n) (firsts (reports t v) (promised_at b given)) (reporters b given t v) (λ q. same_test t v (first (promised_at b given) q)),
    ),
  )

pub promises_count : PromisesCount
promises_count c b given of =
    let k = counted c b given of in
    (promisers_heard c.size b (after_given (begun c b) given) given k, tops_of c.size b (after_given (begun c b) given) given k _ k.keeps.tops)

-- ---- the promise that completes the quorum

majority_is : (n s : ℕ) (t : ℕ → Bool) → size (positions n) t ≡ s → (IsClassic (positions n) t → n < 2 * s) × (n < 2 * s → IsClassic (positions n) t)
majority_is n s t e = let l = length-range_with_len 0 n in ((λ h. omega (arith, l, e, h)), (λ h. omega (arith, l, e, h)))

module _ (n : ℕ) (b : Ballot) (c : Coordinator) (given : List Given) (k : Counted n b c (promised_at b given)) (p : ℕ) (at : Ballot) (vote : Option (Vote Cut)) (own : Option Cut) (below : p < n) where
  abbrev said : List Given
  said = given ++ (p, (at, vote)) ∷ []

  one_more : same_ballot b at ≡ true → set.contains c.heard p ≡ false → size (positions n) (promisers b said) ≡ set.len c.heard + 1
  one_more same new =
      ap (λ l. size (positions n) (firsts (λ (_ : Option (Vote Cut)). true) l)) (promised_here b given (p, (at, vote)) same)
      ∙ size_new (λ _. true) n (promised_at b given) (p, vote) (sym (k.heard p) ∙ new) below
      ∙ ap (λ (m : ℕ). m + 1) (sym (promisers_heard n b c given k))

  counts_by : counts_promise c p at ≡ (same_ballot b at && not (set.contains c.heard p))
  counts_by = ap (λ o. is_ballot o at && not (set.contains c.heard p)) k.keeps.ballot

  completes : (v : Cut) → accept_cut c p at vote own ≡ Some v → (HasMajority n b said × (HasMajority n b given → ⊥)) × (value_of (after_report c p at vote) own ≡ Some v)
  unfolding accept_cut
  completes v e = by (completes_promises c p at) refl e
    where
      by : (t : Bool) → completes_promises c p at ≡ t → cond t (value_of (after_report c p at vote) own) None ≡ Some v → (HasMajority n b said × (HasMajority n b given → ⊥)) × (value_of (after_report c p at vote) own ≡ Some v)
      by false h e = absurd (cc)
      by true h e =
          let parts = and_parts (counts_promise c p at) (set.len c.heard + 1 == classic_size c.size) h in
          let both = and_parts (same_ballot b at) (not (set.contains c.heard p)) (sym counts_by ∙ parts.0) in
          let full : set.len c.heard + 1 ≡ classic_size n = eqb-true _ _ parts.1 ∙ ap classic_size k.keeps.of_size in
          let more = one_more both.0 (not-true _ both.1) in
          let was = promisers_heard n b c given k in (
            ((majority_is n _ (promisers b said) more).1 (omega (arith, full)), λ m. let few = (majority_is n _ (promisers b given) (sym was)).0 m in omega (arith, full, few)),
            e,
          )

  completed : HasMajority n b said → (HasMajority n b given → ⊥) → accept_cut c p at vote own ≡ value_of (after_report c p at vote) own
  unfolding accept_cut
  completed now none = by (same_ballot b at) refl (set.contains c.heard p) refl
    where
      by : (s : Bool) → same_ballot b at ≡ s → (t : Bool) → set.contains c.heard p ≡ t
          → cond (counts_promise c p at && (set.len c.heard + 1 == classic_size c.size)) (value_of (after_report c p at vote) own) None ≡ value_of (after_report c p at vote) own
      by false e t f = absurd (none (subst (λ l. IsClassic (positions n) (firsts (λ (_ : Option (Vote Cut)). true) l)) (promised_elsewhere b given (p, (at, vote)) e) now))
      by true e true f =
          let as_before = ap (λ l. size (positions n) (firsts (λ (_ : Option (Vote Cut)). true) l)) (promised_here b given (p, (at, vote)) e)
          ∙ size_known (λ _. true) n (promised_at b given) (p, vote) (sym (k.heard p) ∙ f) in
          absurd (none (omega (arith, now, as_before)))
      by true e false f =
          let many = (majority_is n _ (promisers b said) (one_more e f)).0 now in
          let full : set.len c.heard + 1 ≡ classic_size n = reached (set.len c.heard) (λ h. none ((majority_is n _ (promisers b given) (sym (promisers_heard n b c given k))).1 h)) many in
          ap (λ t. cond t (value_of (after_report c p at vote) own) None)
          (λ i. (counts_by ∙ (λ j. e j && not (f j))) i && eq-eqb _ _ (full ∙ sym (ap classic_size k.keeps.of_size)) i)
        where
          reached : (s : ℕ) → (n < 2 * s → ⊥) → n < 2 * (s + 1) → s + 1 ≡ classic_size n
          reached s few many = elim (cases_lt n (2 * s)) [ inl h ↦ absurd (few h) | inr h ↦ omega (arith, h, many) ]

after_one : (c : Coordinator) (b : Ballot) (given : List Given) (x : Given) → after_given (begun c b) (given ++ x ∷ []) ≡ after_report (after_given (begun c b) given) x.0 x.1.0 x.1.1
after_one c b given x = after-append (begun c b) given (x ∷ [])

pub promises_complete : PromisesComplete
promises_complete c b given p at vote own v of below =
    let k = counted c b given of in
    let d : Coordinator = after_given (begun c b) given in
    let same : after_given (begun c b) (given ++ (p, (at, vote)) ∷ []) ≡ after_report d p at vote = after_one c b given (p, (at, vote)) in (
      λ e. let h = completes c.size b d given k p at vote own below v e in (h.0, ap (λ z. value_of z own) same ∙ h.1),
      λ h. completed c.size b d given k p at vote own below h.0.0 h.0.1 ∙ ap (λ z. value_of z own) (sym same) ∙ h.1,
    )

-- ---- once

majority_stays : (n : ℕ) (b : Ballot) (given later : List Given) → HasMajority n b given → HasMajority n b (given ++ later)
majority_stays n b given later quorum =
    subst (λ l. IsClassic (positions n) (firsts (λ (_ : Option (Vote Cut)). true) l)) (sym (promised-append b given later))
    (let more = size-within (positions n) (promisers b given) (firsts (λ (_ : Option (Vote Cut)). true) (promised_at b given ++ promised_at b later)) (λ q _ h. firsts_stay (λ _. true) (promised_at b given) (promised_at b later) q h) in
    omega (arith, quorum, more))

pub requests_once : RequestsOnce
requests_once c b given later p q at next vote last own other v of of_later below_p below_q asked =
    none_if _ (λ z e. (completes c.size b (after_given (begun c b) all) all (counted c b all of_all) q next last other below_q z e).0.1 has)
  where
    all : List Given
    all = given ++ (p, (at, vote)) ∷ later

    of_all : OfMembers c.size all
    of_all = All-append (λ (y : Given). y.0 < c.size) given ((p, (at, vote)) ∷ later) of (All-cons (λ (y : Given). y.0 < c.size) (p, (at, vote)) later below_p of_later)

    has : HasMajority c.size b all
    has =
        subst (HasMajority c.size b) (append_assoc given ((p, (at, vote)) ∷ []) later)
        (majority_stays c.size b (given ++ (p, (at, vote)) ∷ []) later (completes c.size b (after_given (begun c b) given) given (counted c b given of) p at vote own below_p v asked).0.0)
