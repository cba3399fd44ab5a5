-- A detector before and after a batch.
use Rattle.std.proofs.Common.{◌≡◌, ℕ, ◌-◌, Bool, true, false, cond, ◌||◌, List, [], ◌∷◌, length, filter, refl, sym, ap, subst, ◌∙◌, arith, Option, Some, None, is_some}
use Rattle.std.specs.FinSet as set
use Rattle.rapid_model.specs.Process.{Process, is_in}
use Rattle.rapid_model.specs.Cut.{Cut}
use Rattle.rapid_model.specs.Alert.{Alert}
use Rattle.rapid_model.specs.Ring.{Observers, AreObservers}
use Rattle.rapid_model.specs.Reports.{Report, report_cmp, Reports, subjects, reports, reaches_low, is_implied, cut_if, is_stable, unstable, cut_of}
use Rattle.rapid_model.specs.Detector.{Detector, joiners, taken, with_alerts, batch_taken, direct_after, after_batch, batch_cut}
use Rattle.rapid_model.proofs.Orders.{same_bytes_decides}
use Rattle.rapid_model.proofs.Closure.{reports_least}
use Rattle.rapid_cut.specs.Closing.{active}
use Rattle.rapid_cut.specs.Limits.{IsDetecting, IsKept}
use Rattle.rapid_cut.specs.Known.{Known}
use Rattle.rapid_cut.specs.Watching.{Watching}
use Rattle.rapid_cut.proofs.Sets.{report_on}
use Rattle.rapid_cut.proofs.Closing.{least_is_one, on_low}
use Rattle.rapid_cut.proofs.Joiners.{is_joiner}
use Rattle.rapid_cut.proofs.Taking.{with_none}

abbrev none : Reports
none = set.empty

no_both : (b : Bool) → b ≡ true → b ≡ false → ⊥
no_both b h k = cc

has_none : (x : Report) → set.contains none x ≡ true → ⊥
has_none x h = no_both _ h (set.contains-empty report_cmp x)

no_subject : (s : Process) → is_in (subjects none) s ≡ true → ⊥
no_subject s h = let r = report_on none s h in has_none (s, r.0) r.1

empty_list : (ps : List Process) → ((q : Process) → is_in ps q ≡ true → ⊥) → ps ≡ []
empty_list [] h = refl
empty_list (p ∷ ps) h = absurd (h p (ap (λ b. b || is_in ps p) ((same_bytes_decides p p).1 refl)))

none_implied : (t : Observers) → AreObservers t → (x : Report) → is_implied t none x ≡ true → ⊥
none_implied t obs x h = no_both _ (on_low t [] none x obs.params.some (λ y k. absurd (has_none y k)) h) refl

reports_none : (t : Observers) → AreObservers t → none ≡ reports t none
reports_none t obs =
    least_is_one t none none (reports t none)
    (record { includes = λ x h. h; closed = λ x i. absurd (none_implied t obs x i); least = λ q inc closed. inc })
    (reports_least t none obs)

pub detecting_none : (t : Observers) (direct all : Reports) → AreObservers t → direct ≡ set.empty → all ≡ set.empty → IsDetecting t direct all
detecting_none t direct all obs d a =
    subst (λ r. IsDetecting t r all) (sym d) (subst (IsDetecting t none) (sym a) (record {
      rules = obs;
      closure = reports_none t obs;
      limits = record {
        observed = λ s h. absurd (no_subject s h);
        joiners = (let e : length (joiners t none) ≡ 0 = ap (λ ps. length (filter (is_joiner t) ps)) (empty_list (subjects none) no_subject) in omega (arith, e));
      };
    }))

pub kept_none : (t : Observers) (direct all : Reports) → AreObservers t → direct ≡ set.empty → all ≡ set.empty → IsKept t direct all [] 0 false
kept_none t direct all obs d a =
    record {
      detecting = detecting_none t direct all obs d a;
      active = sym (ap (active t) d ∙ ap (filter (λ s. reaches_low t none (Some s))) (empty_list (subjects none) no_subject));
      count = sym (ap (λ r. length (joiners t r)) d ∙ ap (λ ps. length (filter (is_joiner t) ps)) (empty_list (subjects none) no_subject));
      none_yet = λ _. ap (cut_of t) d ∙ ap (λ ps. cut_if (filter (is_stable t (reports t none)) ps) (unstable t none)) (empty_list (subjects none) no_subject);
    }

pub kept_after : (t : Observers) (direct all : Reports) (listed : List Process) (joined : ℕ) (cut : Option Cut) → IsDetecting t direct all → listed ≡ active t direct → joined ≡ length (joiners t direct) → cut ≡ cut_of t direct → IsKept t direct all listed joined (is_some cut)
kept_after t direct all listed joined cut d l j is = record { detecting = d; active = l; count = j; none_yet = λ h. sym is ∙ none_of cut h }
  where
    none_of : (c : Option Cut) → is_some c ≡ false → c ≡ None
    none_of None h = refl
    none_of (Some c) h = cc

-- ---- a batch

or_keeps : (a b : Bool) → a ≡ true → (a || b) ≡ a
or_keeps true b h = refl
or_keeps false b h = cc

-- once it is closed it takes nothing
pub closed_after : (t : Observers) (d : Detector) (xs : List Alert) → d.closed ≡ true → (let e : Detector = record { direct = d.direct; closed = d.closed; skipped = 0 } in e) ≡ after_batch t d xs
unfolding after_batch
closed_after t d xs h =
    let direct = ap (λ b. with_alerts d.direct (cond b [] (taken t d.direct xs))) h ∙ with_none d.direct in
    let closed = or_keeps d.closed (is_some (cut_of t (direct_after t d xs))) h in
    let skipped : ◌≡◌ {A = ℕ} (cond d.closed 0 (length xs - length (batch_taken t d xs))) 0 = ap (λ b. cond b 0 (length xs - length (batch_taken t d xs))) h in
    λ i. record { direct = sym direct i; closed = sym closed i; skipped = sym skipped i }

pub after_along : {T : Type 0} (f : T → Observers) (w v : Watching T) (xs : List Alert) → w ≡ v → after_batch (f w.table) w.detector xs ≡ after_batch (f v.table) v.detector xs
after_along {T} f w v xs e = ap (λ (u : Watching T). after_batch (f u.table) u.detector xs) e

pub cut_along : {T : Type 0} (f : T → Observers) (w v : Watching T) (xs : List Alert) → w ≡ v → batch_cut (f w.table) w.detector xs ≡ batch_cut (f v.table) v.detector xs
cut_along {T} f w v xs e = ap (λ (u : Watching T). batch_cut (f u.table) u.detector xs) e

pub unstable_along : {T : Type 0} (f : T → Observers) (w v : Watching T) → w ≡ v → unstable (f w.table) w.detector.direct ≡ unstable (f v.table) v.detector.direct
unstable_along {T} f w v e = ap (λ (u : Watching T). unstable (f u.table) u.detector.direct) e

pub view_along : {T : Type 0} (table : T) (a b : Reports) (closed : Bool) (skipped : ℕ) → a ≡ b →
    ◌≡◌ {A = Watching T} (record { table = table; detector = record { direct = a; closed = closed; skipped = skipped } }) (record { table = table; detector = record { direct = b; closed = closed; skipped = skipped } })
view_along table a b closed skipped e = λ i. record { table = table; detector = record { direct = e i; closed = closed; skipped = skipped } }

pub kept_along : (t : Observers) (known known' : Known) (listed listed' : List Process) (joined : ℕ) (closed : Bool) → known ≡ known' → listed ≡ listed'
    → IsKept t known.direct known.all listed joined closed → IsKept t known'.direct known'.all listed' joined closed
kept_along t known known' listed listed' joined closed d l k =
    subst (λ (x : Known). IsKept t x.direct x.all listed' joined closed) d (subst (λ x. IsKept t known.direct known.all x joined closed) l k)
