-- What a coordinator keeps, in the words of the promises that counted.
use Rattle.std.proofs.Common.{◌≡◌, ℕ, ◌+◌, ◌≤◌, ◌<◌, Bool, true, false, cond, not, ◌&&◌, ◌||◌, List, [], ◌∷◌, length, count_by, nat_eq, refl, sym, ap, subst, ◌∙◌, arith, Option, Some, None, unwrap_or, inl, inr, ◌⊎◌}
use Rattle.std.specs.List.{list_any}
use Rattle.std.specs.Ordering.{nat_cmp, eq_by_cmp}
use Rattle.std.specs.Cmp.{nat_cmp_total, unsigned_tied}
use Rattle.std.specs.FinSet as set
use Rattle.std.specs.FinMap as map
use Rattle.rapid_model.specs.Cut.{Cut, cut_cmp, same_cut}
use Rattle.rapid_model.specs.Ballot.{Ballot, Vote, Before, UpTo, is_below, same_ballot}
use Rattle.rapid_model.specs.FastRound.{Counts, count_of, one_more}
use Rattle.rapid_model.specs.Coordinator.{Coordinator, counts_promise, with_report, after_report, begun, is_ballot, is_above}
use Rattle.rapid_model.proofs.Orders.{cuts_total, ballots_decided}
use Rattle.rapid_model.proofs.Ballots.{Before-irrefl, Before-from_UpTo, UpTo-from}
use Rattle.rapid_model.proofs.Rounds.{count_of-one_more}
use Rattle.rapid_model.proofs.Lists.{In}
use Rattle.rapid_agreement.specs.Positions.{VoteOnce}
use Rattle.rapid_agreement.specs.Asking.{Report, after_promises}
use Rattle.rapid_agreement.proofs.Sets.{size-cons}

-- the vote is for the cut at the ballot
abbrev pub reports : Ballot → Cut → Option (Vote Cut) → Bool
reports t v None = false
reports t v (Some w) = same_ballot w.ballot t && same_cut w.value v

-- how many of the promises report the cut at the ballot
abbrev pub count_at : Ballot → Cut → List Report → ℕ
count_at t v ys = count_by (λ y. reports t v y.1) ys

pub record IsHighest (t : Ballot) (m : Counts) (ys : List Report) : Type 0 where
  pub who : ℕ
  pub value : Cut
  pub there : In ys (who, Some (record { ballot = t; value = value }))
  pub upto : (p : ℕ) (w : Vote Cut) → In ys (p, Some w) → UpTo w.ballot t
  pub counted : (v : Cut) → count_of m v ≡ count_at t v ys
  pub positive : (v : Cut) (k : ℕ) → map.get m v ≡ Some k → 1 ≤ k

abbrev pub Tops : Option Ballot → Counts → List Report → Type 0
Tops None m ys = ((y : Report) → In ys y → y.1 ≡ None) × (m ≡ map.empty)
Tops (Some t) m ys = IsHighest t m ys

pub record Keeps (n : ℕ) (b : Ballot) (c : Coordinator) (ys : List Report) : Type 0 where
  pub of_size : c.size ≡ n
  pub ballot : c.ballot ≡ Some b
  pub once : VoteOnce n ys
  pub heard : (p : ℕ) → set.contains c.heard p ≡ list_any (λ o. nat_eq p o.0) ys
  pub len : set.len c.heard ≡ length ys
  pub tops : Tops c.top c.counts ys

pub keeps_begun : (n : ℕ) (c : Coordinator) (b : Ballot) → c.size ≡ n → Keeps n b (begun c b) []
keeps_begun n c b e =
    record {
      of_size = e;
      ballot = refl;
      once = tt;
      heard = λ p. set.contains-empty nat_cmp p;
      len = set.len-empty nat_cmp;
      tops = (λ y h. absurd h, refl);
    }

-- ---- the tops with one more promise

same_at : (t : Ballot) → same_ballot t t ≡ true
same_at t = (ballots_decided t t).1 refl

count_none : (t : Ballot) (v : Cut) (ys : List Report) → ((p : ℕ) (w : Vote Cut) → In ys (p, Some w) → same_ballot w.ballot t ≡ false) → count_at t v ys ≡ 0
count_none t v [] h = refl
count_none t v ((p, None) ∷ ys) h = size-cons (p, None) ys (λ y. reports t v y.1) ∙ (let rest = count_none t v ys (λ q w i. h q w (inr i)) in omega (arith, rest))
count_none t v ((p, Some w) ∷ ys) h =
    size-cons (p, Some w) ys (λ y. reports t v y.1)
    ∙ ap (λ b. cond (b && same_cut w.value v) 1 0 + count_at t v ys) (h p w (inl refl))
    ∙ (let rest = count_none t v ys (λ q u i. h q u (inr i)) in omega (arith, rest))

count_other : (t : Ballot) (v : Cut) (p : ℕ) (w : Vote Cut) (ys : List Report) → same_ballot w.ballot t ≡ false → count_at t v ((p, Some w) ∷ ys) ≡ count_at t v ys
count_other t v p w ys h = size-cons (p, Some w) ys (λ y. reports t v y.1) ∙ ap (λ b. cond (b && same_cut w.value v) 1 0 + count_at t v ys) h ∙ omega arith

count_same : (t : Ballot) (v : Cut) (p : ℕ) (w : Vote Cut) (ys : List Report) → same_ballot w.ballot t ≡ true → count_at t v ((p, Some w) ∷ ys) ≡ cond (same_cut w.value v) 1 0 + count_at t v ys
count_same t v p w ys h = size-cons (p, Some w) ys (λ y. reports t v y.1) ∙ ap (λ b. cond (b && same_cut w.value v) 1 0 + count_at t v ys) h

count_blank : (t : Ballot) (v : Cut) (p : ℕ) (ys : List Report) → count_at t v ((p, None) ∷ ys) ≡ count_at t v ys
count_blank t v p ys = size-cons (p, None) ys (λ y. reports t v y.1) ∙ omega arith

some_none : {A : Type 0} {P : Type 0} {x : A} → Some x ≡ None → P
some_none e = absurd (cc)

positive_more : (m : Counts) (w : Cut) → ((v : Cut) (k : ℕ) → map.get m v ≡ Some k → 1 ≤ k) → (v : Cut) (k : ℕ) → map.get (one_more m w) v ≡ Some k → 1 ≤ k
positive_more m w old v k e = by (eq_by_cmp cut_cmp v w) (sym (map.get-insert cuts_total m w (count_of m w + 1) v) ∙ e)
  where
    by : (b : Bool) → cond b (Some (count_of m w + 1)) (map.get m v) ≡ Some k → 1 ≤ k
    by true h = let same : count_of m w + 1 ≡ k = cc in omega (arith, same)
    by false h = old v k h

positive_none : (v : Cut) (k : ℕ) → map.get {R = cut_cmp} map.empty v ≡ Some k → 1 ≤ k
positive_none v k e = some_none (sym e ∙ map.get-empty cut_cmp v)

none_counted : (v : Cut) → count_of map.empty v ≡ 0
none_counted v = ap (λ o. unwrap_or o 0) (map.get-empty cut_cmp v)

blank_top : (o : Option Ballot) (m : Counts) (p : ℕ) (ys : List Report) → Tops o m ys → Tops o m ((p, None) ∷ ys)
blank_top None m p ys h = (λ y i. elim i [ inl e ↦ ap (λ (x : Report). x.1) (sym e) | inr later ↦ h.0 y later ], h.1)
blank_top (Some t) m p ys h =
    record {
      who = h.who;
      value = h.value;
      there = inr h.there;
      upto = λ q w i. elim i [ inl e ↦ some_none (ap (λ (x : Report). x.1) (sym e)) | inr later ↦ h.upto q w later ];
      counted = λ v. h.counted v ∙ sym (count_blank t v p ys);
      positive = h.positive;
    }

same_vote : (p q : ℕ) (w u : Vote Cut) → ◌≡◌ {A = Report} (p, Some w) (q, Some u) → w ≡ u
same_vote p q w u e = let votes : Some w ≡ Some u = ap (λ (x : Report). x.1) e in cc

-- the first report, or one above all earlier ones
new_top : (p : ℕ) (w : Vote Cut) (ys : List Report) → ((q : ℕ) (u : Vote Cut) → In ys (q, Some u) → Before u.ballot w.ballot) → Tops (Some w.ballot) (one_more map.empty w.value) ((p, Some w) ∷ ys)
new_top p w ys below =
    record {
      who = p;
      value = w.value;
      there = inl refl;
      upto = λ q u i. elim i [ inl e ↦ inl (ap (λ (x : Vote Cut). x.ballot) (sym (same_vote p q w u e))) | inr later ↦ inr (below q u later) ];
      counted = λ v.
          let none = count_none w.ballot v ys (λ q u i. apart u.ballot w.ballot (below q u i)) in
          let one = count_of-one_more map.empty w.value v in
          let zero = none_counted v in
          let more = count_same w.ballot v p w ys (same_at w.ballot) in
          omega (arith, none, one, zero, more);
      positive = positive_more map.empty w.value positive_none;
    }
  where
    apart : (a t : Ballot) → Before a t → same_ballot a t ≡ false
    apart a t h = by (same_ballot a t) refl
      where
        by : (b : Bool) → same_ballot a t ≡ b → b ≡ false
        by true e = absurd (Before-irrefl t (subst (λ x. Before x t) ((ballots_decided a t).0 e) h))
        by false e = refl

more_top : (t : Ballot) (m : Counts) (p : ℕ) (w : Vote Cut) (ys : List Report) → same_ballot t w.ballot ≡ true → IsHighest t m ys → IsHighest t (one_more m w.value) ((p, Some w) ∷ ys)
more_top t m p w ys same h =
    let e : t ≡ w.ballot = (ballots_decided t w.ballot).0 same in
    record {
      who = h.who;
      value = h.value;
      there = inr h.there;
      upto = λ q u i. elim i [ inl f ↦ inl (ap (λ (x : Vote Cut). x.ballot) (sym (same_vote p q w u f)) ∙ sym e) | inr later ↦ h.upto q u later ];
      counted = λ v.
          let one = count_of-one_more m w.value v in
          let old = h.counted v in
          let more = count_same t v p w ys ((ballots_decided w.ballot t).1 (sym e)) in
          omega (arith, one, old, more);
      positive = positive_more m w.value h.positive;
    }

lower_top : (t : Ballot) (m : Counts) (p : ℕ) (w : Vote Cut) (ys : List Report) → same_ballot t w.ballot ≡ false → is_below t w.ballot ≡ false → IsHighest t m ys → IsHighest t m ((p, Some w) ∷ ys)
lower_top t m p w ys other not_above h =
    record {
      who = h.who;
      value = h.value;
      there = inr h.there;
      upto = λ q u i. elim i [ inl f ↦ subst (λ (x : Vote Cut). UpTo x.ballot t) (same_vote p q w u f) (UpTo-from w.ballot t not_above) | inr later ↦ h.upto q u later ];
      counted = λ v. h.counted v ∙ sym (count_other t v p w ys (apart (same_ballot w.ballot t) refl));
      positive = h.positive;
    }
  where
    apart : (b : Bool) → same_ballot w.ballot t ≡ b → b ≡ false
    apart true e =
        let yes : same_ballot t w.ballot ≡ true = (ballots_decided t w.ballot).1 (sym ((ballots_decided w.ballot t).0 e)) in
        let wrong : true ≡ false = sym yes ∙ other in cc
    apart false e = refl

higher : (t : Ballot) (m : Counts) (w : Vote Cut) (ys : List Report) → IsHighest t m ys → is_below t w.ballot ≡ true → (q : ℕ) (u : Vote Cut) → In ys (q, Some u) → Before u.ballot w.ballot
higher t m w ys h above q u i = Before-from_UpTo u.ballot t w.ballot (h.upto q u i) above

-- the coordinator with a vote, by its highest ballot
abbrev reported_by : Coordinator → Vote Cut → Option Ballot → Coordinator
reported_by c w o =
    cond (is_ballot o w.ballot) (record c { counts = one_more c.counts w.value })
    (cond (is_above o w.ballot) (record c { top = Some w.ballot; counts = one_more map.empty w.value }) c)

tops_at : (c : Coordinator) (p : ℕ) (w : Vote Cut) (ys : List Report) (t : Ballot) → c.top ≡ Some t → IsHighest t c.counts ys → (same above : Bool) → same_ballot t w.ballot ≡ same → is_below t w.ballot ≡ above →
    Tops (cond same (record c { counts = one_more c.counts w.value }) (cond above (record c { top = Some w.ballot; counts = one_more map.empty w.value }) c)).top
    (cond same (record c { counts = one_more c.counts w.value }) (cond above (record c { top = Some w.ballot; counts = one_more map.empty w.value }) c)).counts ((p, Some w) ∷ ys)
tops_at c p w ys t top h true above e f = subst (λ o. Tops o (one_more c.counts w.value) ((p, Some w) ∷ ys)) (sym top) (more_top t c.counts p w ys e h)
tops_at c p w ys t top h false true e f = new_top p w ys (higher t c.counts w ys h f)
tops_at c p w ys t top h false false e f = subst (λ o. Tops o c.counts ((p, Some w) ∷ ys)) (sym top) (lower_top t c.counts p w ys e f h)

tops_by : (c : Coordinator) (p : ℕ) (w : Vote Cut) (ys : List Report) (o : Option Ballot) → c.top ≡ o → Tops o c.counts ys → Tops (reported_by c w o).top (reported_by c w o).counts ((p, Some w) ∷ ys)
tops_by c p w ys None e h = new_top p w ys (λ q u i. some_none (h.0 (q, Some u) i))
tops_by c p w ys (Some t) e h = tops_at c p w ys t e h (same_ballot t w.ballot) (is_below t w.ballot) refl refl

tops_report : (c : Coordinator) (p : ℕ) (vote : Option (Vote Cut)) (ys : List Report) → Tops c.top c.counts ys → Tops (with_report c vote).top (with_report c vote).counts ((p, vote) ∷ ys)
tops_report c p None ys h = blank_top c.top c.counts p ys h
tops_report c p (Some w) ys h = tops_by c p w ys c.top refl h

-- ---- which promises count

pub ignored : (c : Coordinator) (p : ℕ) (b : Ballot) (vote : Option (Vote Cut)) → counts_promise c p b ≡ false → after_report c p b vote ≡ c
unfolding after_report
ignored c p b vote h = rw h refl

pub taken : (c : Coordinator) (p : ℕ) (b : Ballot) (vote : Option (Vote Cut)) → counts_promise c p b ≡ true → after_report c p b vote ≡ with_report (record c { heard = set.insert c.heard p }) vote
unfolding after_report
taken c p b vote h = rw h refl

-- what a report leaves alone
pub size_kept : (c : Coordinator) (vote : Option (Vote Cut)) → ((with_report c vote).size ≡ c.size) × ((with_report c vote).position ≡ c.position) × ((with_report c vote).ballot ≡ c.ballot) × ((with_report c vote).heard ≡ c.heard)
size_kept c None = (refl, refl, refl, refl)
size_kept c (Some w) = by (is_ballot c.top w.ballot) (is_above c.top w.ballot)
  where
    by : (s a : Bool) →
        let d : Coordinator = cond s (record c { counts = one_more c.counts w.value }) (cond a (record c { top = Some w.ballot; counts = one_more map.empty w.value }) c) in
        (d.size ≡ c.size) × (d.position ≡ c.position) × (d.ballot ≡ c.ballot) × (d.heard ≡ c.heard)
    by true a = (refl, refl, refl, refl)
    by false true = (refl, refl, refl, refl)
    by false false = (refl, refl, refl, refl)

counts_is : (c : Coordinator) (p : ℕ) (b : Ballot) → c.ballot ≡ Some b → counts_promise c p b ≡ not (set.contains c.heard p)
counts_is c p b e = ap (λ o. is_ballot o b && not (set.contains c.heard p)) e ∙ ap (λ t. t && not (set.contains c.heard p)) (same_at b)

-- the promises that count after one more
pub record Next (n : ℕ) (b : Ballot) (c : Coordinator) (ys : List Report) (x : Report) : Type 0 where
  pub kept : List Report
  pub keeps : Keeps n b c kept
  pub among : (y : Report) → In kept y → In ys y ⊎ (x ≡ y)
  pub no_fewer : length ys ≤ length kept

module _ (n : ℕ) (b : Ballot) (c : Coordinator) (ys : List Report) (k : Keeps n b c ys) (p : ℕ) (vote : Option (Vote Cut)) (within : p < n) where
  pub keeps_known : set.contains c.heard p ≡ true → Keeps n b (after_report c p b vote) ys
  keeps_known h = subst (λ d. Keeps n b d ys) (sym (ignored c p b vote (counts_is c p b k.ballot ∙ ap not h))) k

  pub keeps_new : set.contains c.heard p ≡ false → Keeps n b (after_report c p b vote) ((p, vote) ∷ ys)
  keeps_new h =
      let d : Coordinator = record c { heard = set.insert c.heard p } in
      let same = size_kept d vote in
      subst (λ d. Keeps n b d ((p, vote) ∷ ys)) (sym (taken c p b vote (counts_is c p b k.ballot ∙ ap not h)))
      (record {
        of_size = same.0 ∙ k.of_size;
        ballot = same.2 ∙ k.ballot;
        once = (within, sym (k.heard p) ∙ h, k.once);
        heard = λ q. ap (λ s. set.contains s q) same.3 ∙ set.contains-insert nat_cmp_total c.heard p q ∙ (λ i. unsigned_tied q p i || k.heard q i);
        len = ap set.len same.3 ∙ set.len-insert nat_cmp_total c.heard p ∙ ap (λ t. cond t (set.len c.heard) (set.len c.heard + 1)) h ∙ (let len = k.len in omega (arith, len));
        tops = tops_report d p vote ys k.tops;
      })

  pub keeps_next : Next n b (after_report c p b vote) ys (p, vote)
  keeps_next = by (set.contains c.heard p) refl
    where
      by : (t : Bool) → set.contains c.heard p ≡ t → Next n b (after_report c p b vote) ys (p, vote)
      by true h = record { kept = ys; keeps = keeps_known h; among = λ y i. inl i; no_fewer = omega arith }
      by false h = record { kept = (p, vote) ∷ ys; keeps = keeps_new h; among = λ y i. elim i [ inl e ↦ inr e | inr later ↦ inl later ]; no_fewer = omega arith }

-- after promises in order
pub record Kept (n : ℕ) (b : Ballot) (c : Coordinator) (ys xs : List Report) : Type 0 where
  pub kept : List Report
  pub keeps : Keeps n b c kept
  pub among : (y : Report) → In kept y → In ys y ⊎ In xs y
  pub no_fewer : length ys ≤ length kept

pub keeps_after : (n : ℕ) (b : Ballot) (xs : List Report) (c : Coordinator) (ys : List Report) → Keeps n b c ys → ((x : Report) → In xs x → x.0 < n) → Kept n b (after_promises c b xs) ys xs
keeps_after n b [] c ys k within = record { kept = ys; keeps = k; among = λ y i. inl i; no_fewer = omega arith }
keeps_after n b (x ∷ xs) c ys k within =
    let next = keeps_next n b c ys k x.0 x.1 (within x (inl refl)) in
    let rest = keeps_after n b xs (after_report c x.0 b x.1) next.kept next.keeps (λ y i. within y (inr i)) in
    record {
      kept = rest.kept;
      keeps = rest.keeps;
      among = λ y i. elim (rest.among y i) [
        | inl early ↦ elim (next.among y early) [ inl old ↦ inl old | inr e ↦ inr (inl e) ]
        | inr late ↦ inr (inr late)
      ];
      no_fewer = omega (arith, next.no_fewer, rest.no_fewer);
    }
