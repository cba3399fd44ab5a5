-- One pass over the processes adds what the direct reports imply.
use Rattle.std.proofs.Common.{◌≡◌, ℕ, ◌+◌, ◌≤◌, ◌<◌, Bool, true, false, not, ◌==◌, ◌&&◌, ◌||◌, List, [], ◌∷◌, ◌++◌, length, take, drop, get_or, filter, zero, suc, add-one, refl, sym, ap, subst, ◌∙◌, Option, Some, None, inl, inr, nat_lt, arith, eq-eqb, ne_eqb}
use Rattle.std.specs.Cmp.{both_ways}
use Rattle.std.specs.FinSet as set
use Rattle.std.proofs.lemmas.Bool.{cases_eq, and_parts, and_from, or_cases, or_left, or_right}
use Rattle.std.proofs.lemmas.List.{take_more}
use Rattle.std.proofs.lemmas.List.Folds.{list_any-append}
use Rattle.rapid_model.specs.Process.{Process, is_in, same_bytes}
use Rattle.rapid_model.specs.Ring.{Observers, AreObservers}
use Rattle.rapid_model.specs.Reports.{Report, Reports, reaches_low, is_implied, subjects, reports}
use Rattle.rapid_model.proofs.Orders.{reports_total, reports_exact, same_bytes_decides}
use Rattle.rapid_rings.specs.Observing.{ObservesNobody, NoneObservesItself}
use Rattle.rapid_cut.specs.Closing.{AddsImplied, IsBetween, IsPassing, HaveCome, is_one_of, active}
use Rattle.rapid_alerts.specs.RingMasks.{has_ring}
use Rattle.rapid_cut.specs.Growing.{is_for, AddsRings}
use Rattle.rapid_alerts.proofs.RingMasks.{no_ring}
use Rattle.rapid_cut.proofs.Sets.{subject_of}
use Rattle.rapid_cut.proofs.Closing.{ring_below, on_low}
use Rattle.rapid_cut.proofs.Active.{low_active}
use Rattle.rapid_cut.proofs.OnePass.{one_pass}
use Rattle.rapid_model.proofs.Among.{filter_among}

-- ---- the rings of one process

pub implied_is : (t : Observers) (r : Reports) (s : Process) (n : ℕ) (b : Bool) → n < t.params.k → reaches_low t r (Some s) ≡ true → b ≡ reaches_low t r (t.observer n s) → is_implied t r (s, n) ≡ b
implied_is t r s n b l low e =
    ap (λ c. c && reaches_low t r (Some s) && reaches_low t r (t.observer n s)) (less n t.params.k l)
    ∙ ap (λ c. c && reaches_low t r (t.observer n s)) low ∙ sym e
  where
    less : (m k : ℕ) → m < k → nat_lt m k ≡ true
    less m k h = grind (arith, h)

-- the report is implied, and the mask has not its ring
abbrev pub is_missing : Observers → Reports → Process → ℕ → ℕ → Bool
is_missing t direct s mask k = not (has_ring mask k) && is_implied t direct (s, k)

pub missing_is : (t : Observers) (direct : Reports) (s : Process) (mask n : ℕ) (b : Bool) → n < t.params.k → reaches_low t direct (Some s) ≡ true → b ≡ (not (has_ring mask n) && reaches_low t direct (t.observer n s))
    → b ≡ is_missing t direct s mask n
missing_is t direct s mask n b l low e = e ∙ ap (λ c. not (has_ring mask n) && c) (sym (implied_is t direct s n _ l low refl))

-- the rings of the mask are those below n that miss
abbrev pub AreMissing : Observers → Reports → Process → ℕ → ℕ → ℕ → Type 0
AreMissing t direct s mask n rings = (k : ℕ) → has_ring rings k ≡ (nat_lt k n && is_missing t direct s mask k)

pub missing_none : (t : Observers) (direct : Reports) (s : Process) (mask : ℕ) → AreMissing t direct s mask 0 0
missing_none t direct s mask k = no_ring k ∙ ap (λ b. b && is_missing t direct s mask k) (none k)
  where
    none : (k : ℕ) → false ≡ nat_lt k 0
    none k = grind arith

pub missing_more : (t : Observers) (direct : Reports) (s : Process) (mask n rings more : ℕ) (b : Bool) → b ≡ is_missing t direct s mask n → ((k : ℕ) → has_ring more k ≡ (has_ring rings k || (b && k == n)))
    → AreMissing t direct s mask n rings → AreMissing t direct s mask (n + 1) more
missing_more t direct s mask n rings more b e is h k =
    is k ∙ ap (λ c. c || (b && k == n)) (h k) ∙ ap (λ c. (nat_lt k n && is_missing t direct s mask k) || (c && k == n)) e
    ∙ elim (cases_eq k n) [
      | inl same ↦ subst (λ j. ((nat_lt j n && is_missing t direct s mask j) || (is_missing t direct s mask n && j == n)) ≡ (nat_lt j (n + 1) && is_missing t direct s mask j)) (sym same)
          (here (nat_lt n n) (n == n) (nat_lt n (n + 1)) (is_missing t direct s mask n) (not_less n) (eq-eqb n n refl) (less n))
      | inr other ↦ there (nat_lt k n) (k == n) (nat_lt k (n + 1)) (is_missing t direct s mask k) (is_missing t direct s mask n) (ne_eqb k n other) (alike k n other)
    ]
  where
    not_less : (n : ℕ) → nat_lt n n ≡ false
    not_less n = grind arith

    less : (n : ℕ) → nat_lt n (n + 1) ≡ true
    less n = grind arith

    alike : (k n : ℕ) → (k ≡ n → ⊥) → nat_lt k n ≡ nat_lt k (n + 1)
    alike k n o = both_ways _ _ (λ h. grind (arith, h)) (λ h. grind (arith, h, o))

    or_false : (b : Bool) → (b || false) ≡ b
    or_false true = refl
    or_false false = refl

    and_from : (b : Bool) → (b && true) ≡ b
    and_from true = refl
    and_from false = refl

    and_false : (b : Bool) → (b && false) ≡ false
    and_false true = refl
    and_false false = refl

    here : (a b c m : Bool) → a ≡ false → b ≡ true → c ≡ true → ((a && m) || (m && b)) ≡ (c && m)
    here a b c m e f g = ap (λ x. (x && m) || (m && b)) e ∙ ap (λ x. m && x) f ∙ and_from m ∙ sym (ap (λ x. x && m) g)

    there : (a b c m o : Bool) → b ≡ false → a ≡ c → ((a && m) || (o && b)) ≡ (c && m)
    there a b c m o e f = ap (λ x. (a && m) || (o && x)) e ∙ ap (λ x. (a && m) || x) (and_false o) ∙ or_false (a && m) ∙ ap (λ x. x && m) f

pub missing_all : (t : Observers) (direct : Reports) (s : Process) (mask n rings : ℕ) → t.params.k ≤ n → AreMissing t direct s mask n rings → (k : ℕ) → has_ring rings k ≡ is_missing t direct s mask k
missing_all t direct s mask n rings done h k =
    h k ∙ and_is (nat_lt k n) (is_missing t direct s mask k) (λ m. less k n (let l = ring_below t direct (s, k) (and_parts (not (has_ring mask k)) (is_implied t direct (s, k)) m).1 in omega (arith, l, done)))
  where
    less : (m k : ℕ) → m < k → nat_lt m k ≡ true
    less m k h = grind (arith, h)

    and_is : (a b : Bool) → (b ≡ true → a ≡ true) → (a && b) ≡ b
    and_is true b h = refl
    and_is false true h = h refl
    and_is false false h = refl

-- added, they are what the direct reports imply on the process
pub adds_implied : (t : Observers) (direct : Reports) (s : Process) (old new : Reports) (mask rings : ℕ) → ((k : ℕ) → set.contains old (s, k) ≡ has_ring mask k)
    → ((k : ℕ) → has_ring rings k ≡ is_missing t direct s mask k) → AddsRings s rings old new → AddsImplied t direct s old new
adds_implied t direct s old new mask rings at is adds =
    record {
      includes = λ x h. adds x ∙ or_right _ _ h;
      implied = λ x h.
          elim (or_cases (is_for s rings x) (set.contains old x) (sym (adds x) ∙ h)) [
            | inl came ↦ (
                let p = and_parts (same_bytes s x.0) (has_ring rings x.1) came in
                let q = and_parts (not (has_ring mask x.1)) (is_implied t direct (s, x.1)) (sym (is x.1) ∙ p.1) in
                inr (subst (λ o. is_implied t direct (o, x.1) ≡ true) ((same_bytes_decides s x.0).0 p.0) q.1)
                )
            | inr there ↦ inl there
          ];
      all = λ k h.
          adds (s, k) ∙ ap (λ b. (b && has_ring rings k) || set.contains old (s, k)) ((same_bytes_decides s s).1 refl)
          ∙ ap (λ b. b || set.contains old (s, k)) (is k ∙ ap (λ b. not (has_ring mask k) && b) h) ∙ ap (λ b. (not (has_ring mask k) && true) || b) (at k) ∙ either (has_ring mask k);
    }
  where
    either : (b : Bool) → ((not b && true) || b) ≡ true
    either true = refl
    either false = refl

-- ---- the processes

single : (ps : List Process) (p q : Process) → length ps ≡ 1 → is_in ps p ≡ true → is_in ps q ≡ true → p ≡ q
single [] p q one h i = cc
single (x ∷ []) p q one h i = (same_bytes_decides p x).0 (sym (or_false (same_bytes p x)) ∙ h) ∙ sym ((same_bytes_decides q x).0 (sym (or_false (same_bytes q x)) ∙ i))
  where
    or_false : (b : Bool) → (b || false) ≡ b
    or_false true = refl
    or_false false = refl
single (x ∷ y ∷ ys) p q one h i = absurd (omega (arith, one))

kept : (p : Process → Bool) (ss : List Process) (s : Process) → is_in ss s ≡ true → p s ≡ true → is_in (filter p ss) s ≡ true
kept p ss s h k = filter_among p ss s ∙ and_from _ _ h k

pub passing_none : (t : Observers) (direct all : Reports) (left : List Process) → AreObservers t → left ≡ active t direct → IsBetween t direct all → IsPassing t direct left all
passing_none t direct all left obs l b =
    subst (λ ss. IsPassing t direct ss all) (sym l) (record {
      between = b;
      low = λ s h. (and_parts (is_in (subjects direct) s) (reaches_low t direct (Some s)) (sym (filter_among (λ q. reaches_low t direct (Some q)) (subjects direct) s) ∙ h)).1;
      rest = λ x h.
          let a = and_parts (nat_lt x.1 t.params.k && reaches_low t direct (Some x.0)) (reaches_low t direct (t.observer x.1 x.0)) h in
          let low = (and_parts (nat_lt x.1 t.params.k) (reaches_low t direct (Some x.0)) a.0).1 in
          inr (kept (λ s. reaches_low t direct (Some s)) (subjects direct) x.0 (on_low t (subjects direct) direct x obs.params.some (λ y k. subject_of direct y k) h) low);
    })

-- what misses is by none of those that came to L, since they observe nobody
pub passing_grown : (t : Observers) (direct all : Reports) (grown : List Process) → IsBetween t direct all → HaveCome t direct all grown → ((o : Process) → is_in grown o ≡ true → ObservesNobody t o) → IsPassing t direct grown all
passing_grown t direct all grown b come nobody =
    record {
      between = b;
      low = come.low;
      rest = λ x h.
          elim (come.rest x h) [
            | inl there ↦ inl there
            | inr more ↦ elim more [ inl on ↦ inr on | inr by ↦ absurd (none_by x.1 x.0 (t.observer x.1 x.0) refl by) ]
          ];
    }
  where
    none_by : (k : ℕ) (s : Process) (o : Option Process) → t.observer k s ≡ o → is_one_of grown o ≡ true → ⊥
    none_by k s None e h = cc
    none_by k s (Some p) e h = nobody p h k s e

-- one process alone has L, and none observes itself: nothing is implied, so nothing misses
pub passing_alone : (t : Observers) (direct all : Reports) (ps : List Process) → AreObservers t → ps ≡ active t direct → length ps ≡ 1 → NoneObservesItself t → IsBetween t direct all → IsPassing t direct [] all
passing_alone t direct all ps obs l one none b =
    record {
      between = b;
      low = λ s h. cc;
      rest = λ x h.
          let a = and_parts (nat_lt x.1 t.params.k && reaches_low t direct (Some x.0)) (reaches_low t direct (t.observer x.1 x.0)) h in
          let low = (and_parts (nat_lt x.1 t.params.k) (reaches_low t direct (Some x.0)) a.0).1 in
          absurd (alone x.1 x.0 (t.observer x.1 x.0) refl low a.1);
    }
  where
    among : (s : Process) → reaches_low t direct (Some s) ≡ true → is_in ps s ≡ true
    among s low = ap (λ qs. is_in qs s) l ∙ sym (low_active t direct s obs) ∙ low

    alone : (k : ℕ) (s : Process) (o : Option Process) → t.observer k s ≡ o → reaches_low t direct (Some s) ≡ true → reaches_low t direct o ≡ true → ⊥
    alone k s None e low by = cc
    alone k s (Some p) e low by = none k s (e ∙ ap Some (single ps p s one (among p by) (among s low)))

-- one more that observes nobody
pub nobody_more : (t : Observers) (ps : List Process) (i : ℕ) (p : Process) → i < length ps → p ≡ get_or ps i p → ObservesNobody t p → ((o : Process) → is_in (take i ps) o ≡ true → ObservesNobody t o)
    → (o : Process) → is_in (take (i + 1) ps) o ≡ true → ObservesNobody t o
nobody_more t ps i p below e here before o h =
    elim (or_cases (is_in (take i ps) o) (is_in (p ∷ []) o) (sym (ap (λ xs. is_in xs o) (take_more ps i p below ∙ ap (λ q. take i ps ++ q ∷ []) (sym e)) ∙ list_any-append (same_bytes o) (take i ps) (p ∷ [])) ∙ h)) [
      | inl was ↦ before o was
      | inr now ↦ subst (ObservesNobody t) (sym ((same_bytes_decides o p).0 (sym (or_false (same_bytes o p)) ∙ now))) here
    ]
  where
    or_false : (b : Bool) → (b || false) ≡ b
    or_false true = refl
    or_false false = refl

pub passing_low : (t : Observers) (direct all : Reports) (left rest : List Process) (s : Process) → left ≡ s ∷ rest → IsPassing t direct left all → reaches_low t direct (Some s) ≡ true
passing_low t direct all left rest s e p = p.low s (ap (λ ss. is_in ss s) e ∙ or_left _ _ ((same_bytes_decides s s).1 refl))

pub passing_one : (t : Observers) (direct all more : Reports) (left rest : List Process) (s : Process) → left ≡ s ∷ rest → AddsImplied t direct s all more → IsPassing t direct left all → IsPassing t direct rest more
passing_one t direct all more left rest s e a p =
    record {
      between = record {
        includes = λ x h. a.includes x (p.between.includes x h);
        implied = λ x h. elim (a.implied x h) [ inl old ↦ p.between.implied x old | inr new ↦ inr new ];
      };
      low = λ q h. p.low q (ap (λ ss. is_in ss q) e ∙ or_right _ _ h);
      rest = λ x h.
          elim (p.rest x h) [
            | inl there ↦ inl (a.includes x there)
            | inr l ↦ elim (or_cases (same_bytes x.0 s) (is_in rest x.0) (subst (λ ss. is_in ss x.0 ≡ true) e l)) [
              | inl at ↦ inl (here x ((same_bytes_decides x.0 s).0 at) h)
              | inr later ↦ inr later
            ]
          ];
    }
  where
    here : (x : Report) → x.0 ≡ s → is_implied t direct x ≡ true → set.contains more x ≡ true
    here x at h =
        subst (λ q. is_implied t direct (q, x.1) ≡ true → set.contains more (q, x.1) ≡ true) (sym at) (a.all x.1) h

pub passing_all : (t : Observers) (direct all : Reports) (left : List Process) → AreObservers t → left ≡ [] → IsPassing t direct left all → all ≡ reports t direct
passing_all t direct all left obs e p =
    set.same_set reports_total reports_exact all (reports t direct) (λ x.
    both_ways _ _
    (λ h. one_pass t direct x obs ∙ elim (p.between.implied x h) [ inl old ↦ or_left _ _ old | inr new ↦ or_right _ _ new ])
    (λ h.
    elim (or_cases (set.contains direct x) (is_implied t direct x) (sym (one_pass t direct x obs) ∙ h)) [
      | inl old ↦ p.between.includes x old
      | inr new ↦ elim (p.rest x new) [ inl there ↦ there | inr l ↦ (let no : false ≡ true = subst (λ ss. is_in ss x.0 ≡ true) e l in cc) ]
    ]))

-- ---- a walk over a list

pub drop_next : {A : Type 0} (xs : List A) (i : ℕ) (a : A) → i < length xs → a ≡ get_or xs i a → drop i xs ≡ a ∷ drop (i + 1) xs
drop_next xs i a h e = at xs i h e ∙ ap (λ j. a ∷ drop j xs) (sym (add-one i))
  where
    at : {A : Type 0} {a : A} (xs : List A) (i : ℕ) → i < length xs → a ≡ get_or xs i a → drop i xs ≡ a ∷ drop (suc i) xs
    at [] i h e = absurd (omega arith)
    at (x ∷ xs) zero h e = ap (λ y. y ∷ xs) (sym e)
    at (x ∷ xs) (suc i) h e = at xs i (omega (arith, h)) e

pub drop_end : {A : Type 0} (xs : List A) (i : ℕ) → length xs ≤ i → drop i xs ≡ []
drop_end [] zero h = refl
drop_end [] (suc i) h = refl
drop_end (x ∷ xs) zero h = absurd (omega (arith, h))
drop_end (x ∷ xs) (suc i) h = drop_end xs i (omega (arith, h))
