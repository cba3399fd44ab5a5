-- Who is listed as stable or unstable, and when there is a cut.
use Rattle.std.proofs.Common.{◌≡◌, ◌↔◌, ◌≤◌, ◌⊎◌, inl, inr, Bool, true, List, [], ◌∷◌, filter, refl, sym, ap, subst, ◌∙◌, Some, None, nat_lt, nat_le, arith}
use Rattle.std.specs.Prelude.{Contains}
use Rattle.std.specs.List.{list_all, AllByRecursion}
use Rattle.std.specs.List.Sorted.{IsStrictlySortedBy}
use Rattle.std.specs.declared.cmp.Ordering.{Ordering}
use Rattle.std.specs.declared.cmp.Ordering.TheVariants.{Less, Equal, Greater}
use Rattle.std.specs.Cmp.{both_ways}
use Rattle.std.specs.Ordering.{is_lt}
use Rattle.std.proofs.lemmas.List.Kept.{IsStrictlySortedBy-filter}
use Rattle.rapid_model.specs.Process.{Process, process_cmp, is_in}
use Rattle.rapid_model.specs.Cut.{Cut, is_ascending}
use Rattle.rapid_model.specs.Ring.{Observers, AreObservers}
use Rattle.rapid_model.specs.Reports.{Reports, subjects, tally, reaches_low, is_stable, is_unstable, reports, stable, unstable, cut_if, cut_of}
use Rattle.rapid_model.proofs.Lists.{in_from, contains_from}
use Rattle.rapid_model.proofs.InOrder.{ascends, same_sorted}
use Rattle.rapid_model.proofs.Orders.{processes_total, processes_exact}
use Rattle.rapid_cut.specs.Laws.{reports_on, HasHigh, IsBetweenMarks, AreListed, AreAllStable, NoneIsReady}
use Rattle.rapid_cut.proofs.OnePass.{low_before}
use Rattle.rapid_cut.proofs.Joiners.{sorted_subjects}
use Rattle.rapid_cut.proofs.Active.{low_active}
use Rattle.rapid_model.proofs.Among.{among_is, is_among, cut_parts, filter_among}
use Rattle.std.proofs.lemmas.Bool.{leb-true, le-leb, ltb-true, lt-ltb, and_parts, and_from}

-- ---- who stands in a list

found : (xs : List Process) (s : Process) → Contains xs s → is_in xs s ≡ true
found xs s h = among_is xs s (in_from xs s h)

stands : (xs : List Process) (s : Process) → is_in xs s ≡ true → Contains xs s
stands xs s h = contains_from xs s (is_among xs s h)

-- lists that ascend and have the same are one
sorted : (ps : List Process) → is_ascending ps ≡ true → IsStrictlySortedBy process_cmp ps
unfolding IsStrictlySortedBy
sorted [] h = tt
sorted (p ∷ ps) h = let b = and_parts (list_all (λ q. is_lt (process_cmp p q)) ps) (is_ascending ps) h in (above ps b.0, sorted ps b.1)
  where
    less : (o : Ordering) → is_lt o ≡ true → o ≡ Less
    less Less e = refl
    less Equal e = cc
    less Greater e = cc

    above : (qs : List Process) → list_all (λ q. is_lt (process_cmp p q)) qs ≡ true → AllByRecursion (λ q. process_cmp p q ≡ Less) qs
    above [] e = tt
    above (q ∷ qs) e = let b = and_parts (is_lt (process_cmp p q)) (list_all (λ r. is_lt (process_cmp p r)) qs) e in (less (process_cmp p q) b.0, above qs b.1)

one_list : (v w : List Process) → is_ascending v ≡ true → is_ascending w ≡ true → ((s : Process) → Contains v s → Contains w s) → ((s : Process) → Contains w s → Contains v s) → v ≡ w
one_list v w a b there back =
    same_sorted process_cmp processes_total processes_exact v w (sorted v a) (sorted w b)
    (λ s. both_ways _ _ (λ h. found w s (there s (stands v s h))) (λ h. found v s (back s (stands w s h))))

-- ---- who is listed

module _ (t : Observers) (direct : Reports) (obs : AreObservers t) where
  -- who has L reports is a subject
  subject : (s : Process) → t.params.l ≤ reports_on t direct s → is_in (subjects direct) s ≡ true
  subject s enough =
      let low : reaches_low t direct (Some s) ≡ true = low_before t direct (Some s) obs (le-leb t.params.l (tally t (reports t direct) s) enough) in
      let active : is_in (filter (λ q. reaches_low t direct (Some q)) (subjects direct)) s ≡ true = sym (low_active t direct s obs) ∙ low in
      (and_parts (is_in (subjects direct) s) (reaches_low t direct (Some s)) (sym (filter_among (λ q. reaches_low t direct (Some q)) (subjects direct) s) ∙ active)).0

  passes : (p : Process → Bool) (s : Process) → Contains (filter p (subjects direct)) s → p s ≡ true
  passes p s h = (and_parts (is_in (subjects direct) s) (p s) (sym (filter_among p (subjects direct) s) ∙ found (filter p (subjects direct)) s h)).1

  listed : (p : Process → Bool) (s : Process) → t.params.l ≤ reports_on t direct s → p s ≡ true → Contains (filter p (subjects direct)) s
  listed p s enough h = stands (filter p (subjects direct)) s (filter_among p (subjects direct) s ∙ and_from _ _ (subject s enough) h)

  rises : (p : Process → Bool) → is_ascending (filter p (subjects direct)) ≡ true
  rises p = ascends (filter p (subjects direct)) (IsStrictlySortedBy-filter process_cmp p (subjects direct) (sorted_subjects direct))

  high : (s : Process) → Contains (stable t direct) s → HasHigh t direct s
  high s h = leb-true t.params.h (reports_on t direct s) (passes (is_stable t (reports t direct)) s h)

  is_high : (s : Process) → HasHigh t direct s → Contains (stable t direct) s
  is_high s h = listed (is_stable t (reports t direct)) s (omega (arith, obs.params.below, h)) (le-leb t.params.h (reports_on t direct s) h)

  between : (s : Process) → Contains (unstable t direct) s → IsBetweenMarks t direct s
  between s h =
      let b = and_parts (nat_le t.params.l (reports_on t direct s)) (nat_lt (reports_on t direct s) t.params.h) (passes (is_unstable t (reports t direct)) s h) in
      (leb-true t.params.l (reports_on t direct s) b.0, ltb-true (reports_on t direct s) t.params.h b.1)

  is_between : (s : Process) → IsBetweenMarks t direct s → Contains (unstable t direct) s
  is_between s h =
      listed (is_unstable t (reports t direct)) s h.0
      (and_from (nat_le t.params.l (reports_on t direct s)) (nat_lt (reports_on t direct s) t.params.h) (le-leb t.params.l (reports_on t direct s) h.0) (lt-ltb (reports_on t direct s) t.params.h h.1))

  pub lists_are_exact : AreListed t direct
  lists_are_exact =
      record {
        each_stable = λ s. (high s, is_high s);
        each_unstable = λ s. (between s, is_between s);
        stable_ascends = rises (is_stable t (reports t direct));
        unstable_ascends = rises (is_unstable t (reports t direct));
      }

-- ---- the cut

first : (x : Process) (xs : List Process) → Contains (x ∷ xs) x
first x xs = contains_from (x ∷ xs) x (inl refl)

nobody : (xs : List Process) (s : Process) → xs ≡ [] → Contains xs s → ⊥
nobody xs s e h = in_from [] s (subst (λ l. Contains l s) e h)

is_cut : (ss us : List Process) (v : Cut) → ss ≡ v → us ≡ [] → (v ≡ [] → ⊥) → cut_if ss us ≡ Some v
is_cut [] us v e n some = absurd (some (sym e))
is_cut (x ∷ xs) [] v e n some = ap Some e
is_cut (x ∷ xs) (u ∷ us) v e n some = cc

all_or_none : (us : List Process) → ((u : Process) → Contains us u → ⊥) → us ≡ []
all_or_none [] h = refl
all_or_none (u ∷ us) h = absurd (h u (first u us))

pub cut_is_exact : (t : Observers) (direct : Reports) (v : Cut) → AreObservers t → (cut_of t direct ≡ Some v) ↔ AreAllStable t direct v
cut_is_exact t direct v obs = (there, back)
  where
    lists : AreListed t direct
    lists = lists_are_exact t direct obs

    there : cut_of t direct ≡ Some v → AreAllStable t direct v
    there h =
        let p = cut_parts (stable t direct) (unstable t direct) v h in
        record {
          some = p.2;
          ascending = subst (λ l. is_ascending l ≡ true) p.0 lists.stable_ascends;
          stable = λ s. (
            (λ c. (lists.each_stable s).0 (subst (λ l. Contains l s) (sym p.0) c)),
            λ c. subst (λ l. Contains l s) p.0 ((lists.each_stable s).1 c),
          );
          none_unstable = λ s u. nobody (unstable t direct) s p.1 ((lists.each_unstable s).1 u);
        }

    back : AreAllStable t direct v → cut_of t direct ≡ Some v
    back w =
        is_cut (stable t direct) (unstable t direct) v
        (one_list (stable t direct) v lists.stable_ascends w.ascending (λ s c. (w.stable s).1 ((lists.each_stable s).0 c)) (λ s c. (lists.each_stable s).1 ((w.stable s).0 c)))
        (all_or_none (unstable t direct) (λ u c. w.none_unstable u ((lists.each_unstable u).0 c)))
        w.some

none_parts : (ss us : List Process) → cut_if ss us ≡ None → (ss ≡ []) ⊎ ((u : Process) × Contains us u)
none_parts [] us e = inl refl
none_parts (x ∷ xs) [] e = cc
none_parts (x ∷ xs) (u ∷ us) e = inr (u, first u us)

none_stable : (ss us : List Process) → ss ≡ [] → cut_if ss us ≡ None
none_stable [] us e = refl
none_stable (x ∷ xs) us e = cc

one_unstable : (ss us : List Process) (u : Process) → Contains us u → cut_if ss us ≡ None
one_unstable [] us u h = refl
one_unstable (x ∷ xs) [] u h = absurd (in_from [] u h)
one_unstable (x ∷ xs) (y ∷ us) u h = refl

pub no_cut_is_exact : (t : Observers) (direct : Reports) → AreObservers t → (cut_of t direct ≡ None) ↔ NoneIsReady t direct
no_cut_is_exact t direct obs = (there, back)
  where
    lists : AreListed t direct
    lists = lists_are_exact t direct obs

    there : cut_of t direct ≡ None → NoneIsReady t direct
    there h =
        elim (none_parts (stable t direct) (unstable t direct) h) [
          | inl none ↦ inl (λ s c. nobody (stable t direct) s none ((lists.each_stable s).1 c))
          | inr one ↦ inr (one.0, (lists.each_unstable one.0).0 one.1)
        ]

    back : NoneIsReady t direct → cut_of t direct ≡ None
    back (inl none) = none_stable (stable t direct) (unstable t direct) (all_or_none (stable t direct) (λ s c. none s ((lists.each_stable s).0 c)))
    back (inr one) = one_unstable (stable t direct) (unstable t direct) one.0 ((lists.each_unstable one.0).1 one.1)
