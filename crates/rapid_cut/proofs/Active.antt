-- While the same processes have L direct reports, the same is implied.
use Rattle.std.proofs.Common.{◌≡◌, ℕ, ◌≤◌, Bool, true, false, ◌&&◌, ◌||◌, List, [], ◌++◌, map, refl, sym, ap, subst, ◌∙◌, ◌⊎◌, inl, inr, Option, Some, None, nat_lt, nat_le, arith}
use Rattle.std.specs.FinSet as set
use Rattle.std.specs.List.Sorted.{IsStrictlySortedBy}
use Rattle.std.proofs.lemmas.List.Kept.{IsStrictlySortedBy-filter}
use Rattle.std.proofs.lemmas.List.Folds.{list_any-append}
use Rattle.rapid_model.specs.Process.{Process, process_cmp, same_bytes, is_in}
use Rattle.rapid_model.specs.InOrder.{in_order}
use Rattle.rapid_model.specs.Alert.{Alert}
use Rattle.rapid_model.specs.Ring.{Observers, AreObservers, rings}
use Rattle.rapid_model.specs.Reports.{Report, report_cmp, Reports, report_of, tally, reaches_low, is_implied, Includes, subjects, reports}
use Rattle.rapid_model.specs.Detector.{with_alerts}
use Rattle.rapid_model.proofs.Closure.{some_counted, implied_mono}
use Rattle.rapid_model.proofs.Orders.{reports_total, reports_exact, processes_total, processes_exact}
use Rattle.rapid_model.proofs.InOrder.{any_in_order, sorted_in_order, same_sorted}
use Rattle.rapid_cut.specs.Closing.{IsBetween, HaveCome, is_one_of, active}
use Rattle.rapid_cut.specs.Growing.{HaveGrown}
use Rattle.rapid_cut.proofs.Ordered.{ordered_subjects}
use Rattle.rapid_cut.proofs.Sets.{subject_of}
use Rattle.rapid_cut.proofs.Joiners.{sorted_subjects}
use Rattle.rapid_cut.proofs.OnePass.{one_pass}
use Rattle.rapid_model.proofs.Logic.{and_is}
use Rattle.std.proofs.lemmas.Bool.{or_cases, or_left, or_right, and_parts, and_from}
use Rattle.rapid_model.proofs.Among.{filter_among}

pub low_active : (t : Observers) (r : Reports) (s : Process) → AreObservers t → reaches_low t r (Some s) ≡ is_in (active t r) s
low_active t r s obs =
    sym (filter_among (λ q. reaches_low t r (Some q)) (subjects r) s ∙ and_is (is_in (subjects r) s) (reaches_low t r (Some s)) (λ h.
    let enough : t.params.l ≤ tally t r s = at_most t.params.l (tally t r s) h in
    some_counted t (subjects r) r s (rings t) (λ y k. subject_of r y k) (omega (arith, enough, obs.params.some))))
  where
    at_most : (m n : ℕ) → nat_le m n ≡ true → m ≤ n
    at_most m n e = grind (arith, e)

-- as many have L reports as before
abbrev pub AreAlike : Observers → Reports → Reports → Type 0
AreAlike t r q = (s : Process) → reaches_low t r (Some s) ≡ reaches_low t q (Some s)

low_same : (t : Observers) (r q : Reports) (o : Option Process) → AreAlike t r q → reaches_low t r o ≡ reaches_low t q o
low_same t r q None e = refl
low_same t r q (Some s) e = e s

implied_same : (t : Observers) (r q : Reports) (x : Report) → AreAlike t r q → is_implied t r x ≡ is_implied t q x
implied_same t r q x e =
    ap (λ b. nat_lt x.1 t.params.k && b && reaches_low t r (t.observer x.1 x.0)) (low_same t r q (Some x.0) e)
    ∙ ap (λ b. nat_lt x.1 t.params.k && reaches_low t q (Some x.0) && b) (low_same t r q (t.observer x.1 x.0) e)

pub sorted_active : (t : Observers) (r : Reports) → IsStrictlySortedBy process_cmp (active t r)
sorted_active t r = IsStrictlySortedBy-filter process_cmp (λ s. reaches_low t r (Some s)) (subjects r) (sorted_subjects r)

pub active_same : (t : Observers) (old new : Reports) (before : List Process) → AreObservers t → before ≡ active t old → AreAlike t new old → before ≡ active t new
active_same t old new before obs b e =
    b ∙ same_sorted process_cmp processes_total processes_exact _ _ (sorted_active t old) (sorted_active t new) (λ q. sym (low_active t old q obs) ∙ sym (e q) ∙ low_active t new q obs)

-- if no process came to L reports, those that had L still have, and no others
pub none_grown : (t : Observers) (old new : Reports) (grown : List Process) → grown ≡ [] → HaveGrown t old new grown → AreAlike t new old
none_grown t old new grown e g s = g.low s ∙ ap (λ l. reaches_low t old (Some s) || is_in l s) e ∙ or_false (reaches_low t old (Some s))
  where
    or_false : (b : Bool) → (b || false) ≡ b
    or_false true = refl
    or_false false = refl

-- the same processes in order
pub grown_in_order : (t : Observers) (old new : Reports) (grown found : List Process) → found ≡ in_order process_cmp grown → HaveGrown t old new grown → HaveGrown t old new found
grown_in_order t old new grown found e g =
    record { low = λ q. g.low q ∙ ap (λ b. reaches_low t old (Some q) || b) (sym (ap (λ l. is_in l q) e ∙ any_in_order process_cmp processes_total grown q)) }

pub in_order_ascends : (grown found : List Process) → found ≡ in_order process_cmp grown → IsStrictlySortedBy process_cmp found
in_order_ascends grown found e = subst (IsStrictlySortedBy process_cmp) (sym e) (sorted_in_order process_cmp processes_total grown)

-- those that came to it beside those of before
pub low_among : (t : Observers) (old new : Reports) (before grown : List Process) → AreObservers t → before ≡ active t old → HaveGrown t old new grown → (q : Process) → reaches_low t new (Some q) ≡ (is_in before q || is_in grown q)
low_among t old new before grown obs b g q = g.low q ∙ ap (λ c. c || is_in grown q) (low_active t old q obs ∙ ap (λ l. is_in l q) (sym b))

-- put in order, they are all that have L reports
pub active_among : (t : Observers) (new : Reports) (before grown found : List Process) → AreObservers t → ((q : Process) → reaches_low t new (Some q) ≡ (is_in before q || is_in grown q))
    → found ≡ before ++ grown → in_order process_cmp found ≡ active t new
active_among t new before grown found obs h e =
    ordered_subjects new (λ s. reaches_low t new (Some s)) found (λ q.
    ap (λ l. is_in l q) e ∙ list_any-append (same_bytes q) before grown ∙ sym (h q) ∙ low_active t new q obs
    ∙ filter_among (λ s. reaches_low t new (Some s)) (subjects new) q)

or_swap : (a b c : Bool) → ((a || b) || c) ≡ ((a || c) || b)
or_swap true b c = refl
or_swap false true true = refl
or_swap false true false = refl
or_swap false false true = refl
or_swap false false false = refl

pub known_still : (t : Observers) (old all new known : Reports) (xs : List Alert) → AreObservers t → all ≡ reports t old
    → known ≡ with_alerts all xs → new ≡ with_alerts old xs → AreAlike t new old → known ≡ reports t new
known_still t old all new known xs obs a k w same =
    set.same_set reports_total reports_exact known (reports t new) (λ x.
    ap (λ r. set.contains r x) k ∙ set.contains-union reports_total all (set.from_list (map report_of xs)) x
    ∙ ap (λ c. c || set.contains (set.from_list {R = report_cmp} (map report_of xs)) x) (ap (λ r. set.contains r x) a ∙ one_pass t old x obs)
    ∙ or_swap (set.contains old x) (is_implied t old x) (set.contains (set.from_list {R = report_cmp} (map report_of xs)) x)
    ∙ ap (λ c. c || is_implied t old x) (sym (ap (λ r. set.contains r x) w ∙ set.contains-union reports_total old (set.from_list (map report_of xs)) x))
    ∙ ap (λ c. set.contains new x || c) (sym (implied_same t new old x same))
    ∙ sym (one_pass t new x obs))

-- what was implied before is implied with more direct reports
pub known_between : (t : Observers) (old all new known : Reports) (xs : List Alert) → AreObservers t → all ≡ reports t old → known ≡ with_alerts all xs → new ≡ with_alerts old xs → IsBetween t new known
known_between t old all new known xs obs a k w =
    let more : Reports = set.from_list {R = report_cmp} (map report_of xs) in
    let known_has : (x : Report) → set.contains known x ≡ ((set.contains old x || is_implied t old x) || set.contains more x) = λ x.
    ap (λ r. set.contains r x) k ∙ set.contains-union reports_total all more x ∙ ap (λ c. c || set.contains more x) (ap (λ r. set.contains r x) a ∙ one_pass t old x obs) in
    let new_has : (x : Report) → set.contains new x ≡ (set.contains old x || set.contains more x) = λ x. ap (λ r. set.contains r x) w ∙ set.contains-union reports_total old more x in
    record {
      includes = λ x h.
          elim (or_cases (set.contains old x) (set.contains more x) (sym (new_has x) ∙ h)) [
            | inl was ↦ known_has x ∙ or_left _ _ (or_left _ _ was)
            | inr came ↦ known_has x ∙ or_right _ _ came
          ];
      implied = λ x h.
          elim (or_cases (set.contains old x || is_implied t old x) (set.contains more x) (sym (known_has x) ∙ h)) [
            | inl was ↦
                elim (or_cases (set.contains old x) (is_implied t old x) was) [
                  | inl there ↦ inl (new_has x ∙ or_left _ _ there)
                  | inr so ↦ inr (implied_mono t old new x (λ y i. new_has y ∙ or_left _ _ i) so)
                ]
            | inr came ↦ inl (new_has x ∙ or_right _ _ came)
          ];
    }

-- all has what is direct
pub closure_includes : (t : Observers) (direct all : Reports) → AreObservers t → all ≡ reports t direct → Includes all direct
closure_includes t direct all obs e x h = ap (λ r. set.contains r x) e ∙ one_pass t direct x obs ∙ or_left _ _ h

-- L direct reports now: as before, or it came to them
low_since : (t : Observers) (old new : Reports) (grown : List Process) (o : Option Process) → HaveGrown t old new grown → reaches_low t new o ≡ true → (reaches_low t old o ≡ true) ⊎ (is_one_of grown o ≡ true)
low_since t old new grown None g h = inl h
low_since t old new grown (Some p) g h = or_cases (reaches_low t old (Some p)) (is_in grown p) (sym (g.low p) ∙ h)

-- what was implied before is known
pub come_since : (t : Observers) (old all new known : Reports) (grown : List Process) (xs : List Alert) → AreObservers t → all ≡ reports t old → known ≡ with_alerts all xs → HaveGrown t old new grown → HaveCome t new known grown
come_since t old all new known grown xs obs a k g =
    record {
      low = λ s h. g.low s ∙ or_right (reaches_low t old (Some s)) (is_in grown s) h;
      rest = λ x h.
          let parts = and_parts (nat_lt x.1 t.params.k && reaches_low t new (Some x.0)) (reaches_low t new (t.observer x.1 x.0)) h in
          let first = and_parts (nat_lt x.1 t.params.k) (reaches_low t new (Some x.0)) parts.0 in
          elim (low_since t old new grown (Some x.0) g first.1) [
            | inr on ↦ inr (inl on)
            | inl subject ↦ elim (low_since t old new grown (t.observer x.1 x.0) g parts.1) [
              | inr by ↦ inr (inr by)
              | inl observer ↦ inl (known_has x (and_from _ _ (and_from _ _ first.0 subject) observer))
            ]
          ];
    }
  where
    known_has : (x : Report) → is_implied t old x ≡ true → set.contains known x ≡ true
    known_has x h =
        ap (λ r. set.contains r x) k ∙ set.contains-union reports_total all (set.from_list {R = report_cmp} (map report_of xs)) x
        ∙ or_left _ _ (ap (λ r. set.contains r x) a ∙ one_pass t old x obs ∙ or_right (set.contains old x) (is_implied t old x) h)
