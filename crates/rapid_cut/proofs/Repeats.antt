-- Two lists of the same alerts make one set, and lists that come in turn make the set of all.
use Rattle.std.proofs.Common.{◌≡◌, Bool, true, false, ◌||◌, List, [], ◌∷◌, ◌++◌, map, refl, sym, ap, ◌∙◌, inl, inr, ◌↔◌}
use Rattle.std.specs.Prelude.{Contains}
use Rattle.std.specs.List.{list_any}
use Rattle.std.specs.Cmp.{both_ways}
use Rattle.std.specs.Ordering.{eq_by_cmp}
use Rattle.std.specs.FinSet as set
use Rattle.rapid_model.specs.Alert.{Alert}
use Rattle.rapid_model.specs.Reports.{Report, report_cmp, Reports, report_of}
use Rattle.rapid_model.specs.Detector.{Detector, with_alerts, batch_taken, after_batch}
use Rattle.rapid_model.specs.Ring.{Observers}
use Rattle.rapid_cut.specs.Laws.{taken_in_turn, after_batches}
use Rattle.rapid_model.proofs.Lists.{In, in_from, contains_from}
use Rattle.rapid_model.proofs.Orders.{reports_total, reports_exact, tie_decides}
use Rattle.std.proofs.lemmas.Bool.{or_cases, or_left, or_right}

abbrev reports_on : List Alert → Report → Bool
reports_on xs x = list_any (eq_by_cmp report_cmp x) (map report_of xs)

by_one : (xs : List Alert) (x : Report) → reports_on xs x ≡ true → (a : Alert) × In xs a × (x ≡ report_of a)
by_one [] x h = cc
by_one (a ∷ xs) x h =
    elim (or_cases (eq_by_cmp report_cmp x (report_of a)) (reports_on xs x) h) [
      | inl e ↦ (a, inl refl, (tie_decides reports_total reports_exact x (report_of a)).0 e)
      | inr later ↦ (let r = by_one xs x later in (r.0, inr r.1, r.2))
    ]

one_by : (xs : List Alert) (x : Report) (a : Alert) → In xs a → x ≡ report_of a → reports_on xs x ≡ true
one_by [] x a h e = absurd h
one_by (b ∷ xs) x a (inl h) e = or_left _ _ ((tie_decides reports_total reports_exact x (report_of b)).1 (e ∙ ap report_of (sym h)))
one_by (b ∷ xs) x a (inr h) e = or_right _ _ (one_by xs x a h e)

half : (xs ys : List Alert) → ((a : Alert) → Contains xs a → Contains ys a) → (x : Report) → reports_on xs x ≡ true → reports_on ys x ≡ true
half xs ys same x h = let r = by_one xs x h in one_by ys x r.0 (in_from ys r.0 (same r.0 (contains_from xs r.0 r.1))) r.2

pub same_alerts : (r : Reports) (xs ys : List Alert) → ((a : Alert) → Contains xs a ↔ Contains ys a) → with_alerts r xs ≡ with_alerts r ys
same_alerts r xs ys same =
    set.same_set reports_total reports_exact _ _ (λ x.
    set.contains-union reports_total r (set.from_list (map report_of xs)) x
    ∙ ap (λ b. set.contains r x || b) (set.contains-from_list reports_total (map report_of xs) x ∙ both_ways _ _ (half xs ys (λ a. (same a).0) x) (half ys xs (λ a. (same a).1) x) ∙ sym (set.contains-from_list reports_total (map report_of ys) x))
    ∙ sym (set.contains-union reports_total r (set.from_list (map report_of ys)) x))

or_assoc : (a b c : Bool) → ((a || b) || c) ≡ (a || (b || c))
or_assoc true b c = refl
or_assoc false b c = refl

-- what is reported by one list or by the other
reports_on-append : (xs ys : List Alert) (x : Report) → reports_on (xs ++ ys) x ≡ (reports_on xs x || reports_on ys x)
reports_on-append [] ys x = refl
reports_on-append (a ∷ xs) ys x =
    ap (λ b. eq_by_cmp report_cmp x (report_of a) || b) (reports_on-append xs ys x)
    ∙ sym (or_assoc (eq_by_cmp report_cmp x (report_of a)) (reports_on xs x) (reports_on ys x))

has : (r : Reports) (xs : List Alert) (x : Report) → set.contains (with_alerts r xs) x ≡ (set.contains r x || reports_on xs x)
has r xs x =
    set.contains-union reports_total r (set.from_list (map report_of xs)) x
    ∙ ap (λ b. set.contains r x || b) (set.contains-from_list reports_total (map report_of xs) x)

pub batches_add_up : (r : Reports) (xs ys : List Alert) → with_alerts (with_alerts r xs) ys ≡ with_alerts r (xs ++ ys)
batches_add_up r xs ys =
    set.same_set reports_total reports_exact _ _ (λ x.
    has (with_alerts r xs) ys x
    ∙ ap (λ b. b || reports_on ys x) (has r xs x)
    ∙ or_assoc (set.contains r x) (reports_on xs x) (reports_on ys x)
    ∙ ap (λ b. set.contains r x || b) (sym (reports_on-append xs ys x))
    ∙ sym (has r (xs ++ ys) x))

-- nothing more
with_none : (r : Reports) → r ≡ with_alerts r []
with_none r = set.same_set reports_total reports_exact r (with_alerts r []) (λ x. sym (has r [] x ∙ or_false (set.contains r x)))
  where
    or_false : (b : Bool) → (b || false) ≡ b
    or_false true = refl
    or_false false = refl

kept_at_once : (t : Observers) (d : Detector) (xs : List Alert) → (after_batch t d xs).direct ≡ with_alerts d.direct (batch_taken t d xs)
unfolding after_batch
kept_at_once t d xs = refl

pub all_taken_are_kept : (t : Observers) (d : Detector) (batches : List (List Alert)) → (after_batches t d batches).direct ≡ with_alerts d.direct (taken_in_turn t d batches)
all_taken_are_kept t d [] = with_none d.direct
all_taken_are_kept t d (xs ∷ batches) =
    all_taken_are_kept t (after_batch t d xs) batches
    ∙ ap (λ r. with_alerts r (taken_in_turn t (after_batch t d xs) batches)) (kept_at_once t d xs)
    ∙ batches_add_up d.direct (batch_taken t d xs) (taken_in_turn t (after_batch t d xs) batches)
