-- What is implied goes only to processes that have L direct reports, so one pass reaches the least closed set.
use Rattle.std.proofs.Common.{◌≡◌, ℕ, ◌≤◌, Bool, true, false, ◌&&◌, ◌||◌, refl, sym, ap, subst, ◌∙◌, Option, Some, None, inl, inr, nat_lt, nat_le, arith}
use Rattle.std.specs.List.{list_any}
use Rattle.std.specs.Ordering.{eq_by_cmp}
use Rattle.std.specs.Cmp.{eq_by_cmp_equiv}
use Rattle.std.specs.FinSet as set
use Rattle.std.proofs.lemmas.Map.Made.{is_member-filter}
use Rattle.rapid_model.specs.Process.{Process}
use Rattle.rapid_model.specs.Ring.{Observers, AreObservers, rings}
use Rattle.rapid_model.specs.Reports.{Report, report_cmp, Reports, tally, reaches_low, is_implied, IsLeastClosed, subjects, all_on, implied, reports}
use Rattle.rapid_model.proofs.Orders.{reports_total, reports_exact, tie_decides}
use Rattle.rapid_model.proofs.Closure.{count_mono, implied_mono, in_all, reports_least}
use Rattle.rapid_cut.proofs.Sets.{subject_of}
use Rattle.rapid_cut.proofs.Closing.{ring_below, on_low, least_is_one}
use Rattle.std.proofs.lemmas.Bool.{and_parts, and_from, or_cases, or_left, or_right}

module _ (t : Observers) (direct : Reports) where
  -- the direct reports and what they imply
  abbrev once : Reports
  once = set.union direct (set.from_list (implied t (subjects direct) direct))

  module _ (obs : AreObservers t) where
    implied_listed : (x : Report) → is_implied t direct x ≡ true → list_any (eq_by_cmp report_cmp x) (all_on t (subjects direct)) ≡ true
    implied_listed x h =
        in_all t (subjects direct) (subjects direct) x (on_low t (subjects direct) direct x obs.params.some (λ y k. subject_of direct y k) h) (ring_below t direct x h)

    and_is : (a b : Bool) → (b ≡ true → a ≡ true) → (a && b) ≡ b
    and_is true b h = refl
    and_is false true h = h refl
    and_is false false h = refl

    listed : (x : Report) → list_any (eq_by_cmp report_cmp x) (implied t (subjects direct) direct) ≡ is_implied t direct x
    listed x =
        is_member-filter (eq_by_cmp_equiv reports_total) (is_implied t direct) x (λ y e. ap (is_implied t direct) ((tie_decides reports_total reports_exact x y).0 e)) (all_on t (subjects direct))
        ∙ and_is _ _ (implied_listed x)

    once_has : (x : Report) → set.contains once x ≡ (set.contains direct x || is_implied t direct x)
    once_has x =
        set.contains-union reports_total direct (set.from_list (implied t (subjects direct) direct)) x
        ∙ ap (λ b. set.contains direct x || b) (set.contains-from_list reports_total (implied t (subjects direct) direct) x ∙ listed x)

    -- a process without L direct reports has no other report
    not_more : (s : Process) → nat_le t.params.l (tally t direct s) ≡ false → (k : ℕ) → set.contains once (s, k) ≡ true → set.contains direct (s, k) ≡ true
    not_more s few k h =
        elim (or_cases (set.contains direct (s, k)) (is_implied t direct (s, k)) (sym (once_has (s, k)) ∙ h)) [
          | inl there ↦ there
          | inr new ↦ (
              let a = and_parts (nat_lt k t.params.k && nat_le t.params.l (tally t direct s)) (reaches_low t direct (t.observer k s)) new in
              let b = and_parts (nat_lt k t.params.k) (nat_le t.params.l (tally t direct s)) a.0 in
              absurd (no_both _ b.1 few)
              )
        ]
      where
        no_both : (b : Bool) → b ≡ true → b ≡ false → ⊥
        no_both b h k = cc

    low_already : (o : Option Process) → reaches_low t once o ≡ true → reaches_low t direct o ≡ true
    low_already None h = h
    low_already (Some s) h =
        elim (nat_le t.params.l (tally t direct s)) as (λ b. nat_le t.params.l (tally t direct s) ≡ b → b ≡ true) [
          | true ↦ λ _. refl
          | false ↦ λ few. sym few ∙ at_least t.params.l (tally t once s) (tally t direct s) (count_mono (λ k. set.contains once (s, k)) (λ k. set.contains direct (s, k)) (rings t) (not_more s few)) h
        ] refl
      where
        at_least : (l a b : ℕ) → a ≤ b → nat_le l a ≡ true → nat_le l b ≡ true
        at_least l a b h e = grind arith

    implied_already : (x : Report) → is_implied t once x ≡ true → is_implied t direct x ≡ true
    implied_already x h =
        let a = and_parts (nat_lt x.1 t.params.k && reaches_low t once (Some x.0)) (reaches_low t once (t.observer x.1 x.0)) h in
        let b = and_parts (nat_lt x.1 t.params.k) (reaches_low t once (Some x.0)) a.0 in
        and_from _ _ (and_from _ _ b.0 (low_already (Some x.0) b.1)) (low_already (t.observer x.1 x.0) a.1)

    once_least : IsLeastClosed t direct once
    once_least =
        record {
          includes = λ x h. once_has x ∙ or_left _ _ h;
          closed = λ x h. once_has x ∙ or_right _ _ (implied_already x h);
          least = λ q inc closed x h.
              elim (or_cases (set.contains direct x) (is_implied t direct x) (sym (once_has x) ∙ h)) [
                | inl there ↦ inc x there
                | inr new ↦ closed x (implied_mono t direct q x inc new)
              ];
        }

    pub reports_at_once : (x : Report) → set.contains (reports t direct) x ≡ (set.contains direct x || is_implied t direct x)
    reports_at_once x = ap (λ r. set.contains r x) (least_is_one t direct (reports t direct) once (reports_least t direct obs) once_least) ∙ once_has x

    pub low_at_first : (o : Option Process) → reaches_low t (reports t direct) o ≡ true → reaches_low t direct o ≡ true
    low_at_first o h = low_already o (subst (λ r. reaches_low t r o ≡ true) (least_is_one t direct (reports t direct) once (reports_least t direct obs) once_least) h)

pub one_pass : (t : Observers) (direct : Reports) (x : Report) → AreObservers t → set.contains (reports t direct) x ≡ (set.contains direct x || is_implied t direct x)
one_pass t direct x obs = reports_at_once t direct obs x

-- a process with L reports has L direct ones
pub low_before : (t : Observers) (direct : Reports) (o : Option Process) → AreObservers t → reaches_low t (reports t direct) o ≡ true → reaches_low t direct o ≡ true
low_before t direct o obs h = low_at_first t direct obs o h
