-- The joiners that are reported on, after one more report.
use Rattle.std.proofs.Common.{◌≡◌, ℕ, ◌+◌, ◌≤◌, Bool, true, false, not, ◌&&◌, ◌||◌, List, [], ◌∷◌, length, map, filter, refl, sym, ap, subst, ◌∙◌, inl, inr, arith, nat_lt}
use Rattle.std.specs.List.Sorted.{IsStrictlySortedBy}
use Rattle.std.specs.Cmp.{both_ways}
use Rattle.std.specs.declared.cmp.Ordering.TheVariants.{Less, Equal, Greater}
use Rattle.std.specs.Ordering.{eq_by_cmp, is_eq, match_ordering}
use Rattle.std.specs.BTreeSet.{insert_key}
use Rattle.std.specs.FinSet as set
use Rattle.std.proofs.lemmas.List.Kept.{IsStrictlySortedBy-filter}
use Rattle.rapid_model.specs.Process.{Process, process_cmp, is_in, same_bytes}
use Rattle.rapid_model.specs.Ring.{Observers}
use Rattle.rapid_model.specs.Reports.{Report, report_cmp, Reports, subjects}
use Rattle.rapid_model.specs.Alert.{Alert, is_well_formed}
use Rattle.rapid_model.specs.Detector.{joiners, is_taken}
use Rattle.rapid_model.proofs.Orders.{reports_total, reports_exact, processes_total, processes_exact, tie_decides, same_bytes_decides}
use Rattle.rapid_model.proofs.InOrder.{any_insert, sorted_in_order, same_sorted, sorted_insert}
use Rattle.rapid_cut.proofs.Sets.{subject_of, report_on}
use Rattle.rapid_model.proofs.Among.{filter_among}
use Rattle.std.proofs.lemmas.Bool.{or_cases, or_left, or_right}

pub sorted_subjects : (r : Reports) → IsStrictlySortedBy process_cmp (subjects r)
unfolding subjects
sorted_subjects r = sorted_in_order process_cmp processes_total (map (λ (x : Report). x.0) (set.items r))

-- the subjects of one report more
pub in_subjects_more : (r : Reports) (x : Report) (q : Process) → is_in (subjects (set.insert r x)) q ≡ (same_bytes q x.0 || is_in (subjects r) q)
in_subjects_more r x q =
    both_ways _ _
    (λ h.
    let k = report_on (set.insert r x) q h in
    elim (or_cases (eq_by_cmp report_cmp (q, k.0) x) (set.contains r (q, k.0)) (sym (set.contains-insert reports_total r x (q, k.0)) ∙ k.1)) [
      | inl e ↦ or_left _ _ ((same_bytes_decides q x.0).1 (ap (λ (z : Report). z.0) ((tie_decides reports_total reports_exact (q, k.0) x).0 e)))
      | inr old ↦ or_right _ _ (subject_of r (q, k.0) old)
    ])
    (λ h. elim (or_cases (same_bytes q x.0) (is_in (subjects r) q) h) [
      | inl e ↦ subst (λ p. is_in (subjects (set.insert r x)) p ≡ true) (sym ((same_bytes_decides q x.0).0 e)) (subject_of (set.insert r x) x (set.contains-insert reports_total r x x ∙ or_left _ _ ((tie_decides reports_total reports_exact x x).1 refl)))
      | inr old ↦ (
          let k = report_on r q old in
          subject_of (set.insert r x) (q, k.0) (set.contains-insert reports_total r x (q, k.0) ∙ or_right _ _ k.1)
          )
    ])

pub subjects_more : (r : Reports) (x : Report) → subjects (set.insert r x) ≡ insert_key process_cmp (subjects r) x.0
subjects_more r x =
    same_sorted process_cmp processes_total processes_exact _ _ (sorted_subjects (set.insert r x)) (sorted_insert process_cmp processes_total (subjects r) x.0 (sorted_subjects r))
    (λ q. in_subjects_more r x q ∙ sym (any_insert process_cmp processes_total (subjects r) x.0 q))

-- ---- a filter of a sorted list

and_or : (a b c : Bool) → ((a || b) && c) ≡ ((a && c) || (b && c))
and_or true true true = refl
and_or true true false = refl
and_or true false true = refl
and_or true false false = refl
and_or false b c = refl

at_key : (p : Process → Bool) (q k : Process) → (same_bytes q k && p q) ≡ (same_bytes q k && p k)
at_key p q k =
    elim (same_bytes q k) as (λ b. same_bytes q k ≡ b → (b && p q) ≡ (b && p k)) [
      | true ↦ λ e. ap p ((same_bytes_decides q k).0 e)
      | false ↦ λ e. refl
    ] refl

and_true : (a : Bool) → (a && true) ≡ a
and_true true = refl
and_true false = refl

and_false : (a : Bool) → (a && false) ≡ false
and_false true = refl
and_false false = refl

in_filter_insert : (p : Process → Bool) (xs : List Process) (k q : Process) → is_in (filter p (insert_key process_cmp xs k)) q ≡ ((same_bytes q k && p k) || is_in (filter p xs) q)
in_filter_insert p xs k q =
    filter_among p (insert_key process_cmp xs k) q ∙ ap (λ b. b && p q) (any_insert process_cmp processes_total xs k q)
    ∙ and_or (same_bytes q k) (is_in xs q) (p q) ∙ ap (λ b. b || (is_in xs q && p q)) (at_key p q k)
    ∙ ap (λ b. (same_bytes q k && p k) || b) (sym (filter_among p xs q))

pub filter_insert : (p : Process → Bool) (xs : List Process) (k : Process) → p k ≡ true → IsStrictlySortedBy process_cmp xs → filter p (insert_key process_cmp xs k) ≡ insert_key process_cmp (filter p xs) k
filter_insert p xs k h s =
    same_sorted process_cmp processes_total processes_exact _ _
    (IsStrictlySortedBy-filter process_cmp p (insert_key process_cmp xs k) (sorted_insert process_cmp processes_total xs k s))
    (sorted_insert process_cmp processes_total (filter p xs) k (IsStrictlySortedBy-filter process_cmp p xs s))
    (λ q. in_filter_insert p xs k q ∙ ap (λ b. (same_bytes q k && b) || is_in (filter p xs) q) h ∙ ap (λ b. b || is_in (filter p xs) q) (and_true (same_bytes q k)) ∙ sym (any_insert process_cmp processes_total (filter p xs) k q))

pub filter_insert_no : (p : Process → Bool) (xs : List Process) (k : Process) → p k ≡ false → IsStrictlySortedBy process_cmp xs → filter p (insert_key process_cmp xs k) ≡ filter p xs
filter_insert_no p xs k h s =
    same_sorted process_cmp processes_total processes_exact _ _
    (IsStrictlySortedBy-filter process_cmp p (insert_key process_cmp xs k) (sorted_insert process_cmp processes_total xs k s))
    (IsStrictlySortedBy-filter process_cmp p xs s)
    (λ q. in_filter_insert p xs k q ∙ ap (λ b. (same_bytes q k && b) || is_in (filter p xs) q) h ∙ ap (λ b. b || is_in (filter p xs) q) (and_false (same_bytes q k)))

-- ---- the joiners of one report more

abbrev pub is_joiner : Observers → Process → Bool
is_joiner t s = not (t.is_member s)

pub joiners_more : (t : Observers) (r : Reports) (x : Report) → t.is_member x.0 ≡ false → joiners t (set.insert r x) ≡ insert_key process_cmp (joiners t r) x.0
joiners_more t r x h = ap (filter (is_joiner t)) (subjects_more r x) ∙ filter_insert (is_joiner t) (subjects r) x.0 (ap not h) (sorted_subjects r)

pub joiners_same : (t : Observers) (r : Reports) (x : Report) → t.is_member x.0 ≡ true → joiners t (set.insert r x) ≡ joiners t r
joiners_same t r x h = ap (filter (is_joiner t)) (subjects_more r x) ∙ filter_insert_no (is_joiner t) (subjects r) x.0 (ap not h) (sorted_subjects r)

pub length_insert : (xs : List Process) (k : Process) → length (insert_key process_cmp xs k) ≤ length xs + 1
length_insert [] k = omega arith
length_insert (x ∷ xs) k =
    let rest = length_insert xs k in
    elim (process_cmp k x) as (λ r. length (match_ordering r (k ∷ x ∷ xs) (x ∷ xs) (x ∷ insert_key process_cmp xs k)) ≤ length (x ∷ xs) + 1) [
      | Less ↦ omega arith
      | Equal ↦ omega arith
      | Greater ↦ omega (arith, rest)
    ]

pub insert_again : (xs : List Process) (k : Process) → is_in xs k ≡ true → IsStrictlySortedBy process_cmp xs → insert_key process_cmp xs k ≡ xs
insert_again xs k h s =
    same_sorted process_cmp processes_total processes_exact _ _ (sorted_insert process_cmp processes_total xs k s) s (λ q.
    any_insert process_cmp processes_total xs k q ∙ again q)
  where
    again : (q : Process) → (same_bytes q k || is_in xs q) ≡ is_in xs q
    again q =
        elim (same_bytes q k) as (λ b. same_bytes q k ≡ b → (b || is_in xs q) ≡ is_in xs q) [
          | true ↦ λ e. sym (subst (λ p. is_in xs p ≡ true) (sym ((same_bytes_decides q k).0 e)) h)
          | false ↦ λ e. refl
        ] refl

pub sorted_joiners : (t : Observers) (r : Reports) → IsStrictlySortedBy process_cmp (joiners t r)
sorted_joiners t r = IsStrictlySortedBy-filter process_cmp (is_joiner t) (subjects r) (sorted_subjects r)

-- ---- how many joiners there are

pub on_joiner : (t : Observers) (r : Reports) (s : Process) → t.is_member s ≡ false → is_in (joiners t r) s ≡ is_in (subjects r) s
on_joiner t r s h = filter_among (is_joiner t) (subjects r) s ∙ ap (λ b. is_in (subjects r) s && not b) h ∙ and_true (is_in (subjects r) s)

-- whether it is a member or reported on is whether it is a member or a joiner that is
pub known_alike : (t : Observers) (r : Reports) (s : Process) (b : Bool) → (t.is_member s || is_in (subjects r) s || b) ≡ (t.is_member s || is_in (joiners t r) s || b)
known_alike t r s b =
    elim (t.is_member s) as (λ m. t.is_member s ≡ m → (m || is_in (subjects r) s || b) ≡ (m || is_in (joiners t r) s || b)) [
      | true ↦ λ e. refl
      | false ↦ λ e. ap (λ c. c || b) (sym (on_joiner t r s e))
    ] refl

pub length_insert_new : (xs : List Process) (k : Process) → is_in xs k ≡ false → length (insert_key process_cmp xs k) ≡ length xs + 1
length_insert_new [] k h = omega arith
length_insert_new (x ∷ xs) k h =
    elim (process_cmp k x) as (λ r. process_cmp k x ≡ r → length (match_ordering r (k ∷ x ∷ xs) (x ∷ xs) (x ∷ insert_key process_cmp xs k)) ≡ length (x ∷ xs) + 1) [
      | Less ↦ λ e. omega arith
      | Equal ↦ λ e. (let n : true ≡ false = sym (ap (λ o. is_eq o || is_in xs k) e) ∙ h in cc)
      | Greater ↦ λ e. (let rest = length_insert_new xs k (later (same_bytes k x) (is_in xs k) h) in omega (arith, rest))
    ] refl
  where
    later : (a b : Bool) → (a || b) ≡ false → b ≡ false
    later true b h = cc
    later false b h = h

pub joiners_stay : (t : Observers) (r : Reports) (s : Process) (k : ℕ) → (t.is_member s || is_in (subjects r) s) ≡ true → joiners t (set.insert r (s, k)) ≡ joiners t r
joiners_stay t r s k h =
    elim (t.is_member s) as (λ m. t.is_member s ≡ m → (m || is_in (subjects r) s) ≡ true → joiners t (set.insert r (s, k)) ≡ joiners t r) [
      | true ↦ λ e _. joiners_same t r (s, k) e
      | false ↦ λ e there. joiners_more t r (s, k) e ∙ insert_again (joiners t r) s (on_joiner t r s e ∙ there) (IsStrictlySortedBy-filter process_cmp (is_joiner t) (subjects r) (sorted_subjects r))
    ] refl h

pub joiners_grow : (t : Observers) (r : Reports) (s : Process) (k : ℕ) → (t.is_member s || is_in (subjects r) s) ≡ false → length (joiners t (set.insert r (s, k))) ≡ length (joiners t r) + 1
joiners_grow t r s k h =
    elim (t.is_member s) as (λ m. t.is_member s ≡ m → (m || is_in (subjects r) s) ≡ false → length (joiners t (set.insert r (s, k))) ≡ length (joiners t r) + 1) [
      | true ↦ λ e no. cc
      | false ↦ λ e no. ap length (joiners_more t r (s, k) e) ∙ length_insert_new (joiners t r) s (on_joiner t r s e ∙ no)
    ] refl h

-- ---- an alert that is well-formed

taken_as : (t : Observers) (r : Reports) (a : Alert) → is_well_formed t a ≡ true → is_taken t r a ≡ (t.is_member a.subject || is_in (subjects r) a.subject || nat_lt (length (joiners t r)) 512)
taken_as t r a w =
    ap (λ b. b && (t.is_member a.subject || is_in (joiners t r) a.subject || nat_lt (length (joiners t r)) 512)) w
    ∙ sym (known_alike t r a.subject (nat_lt (length (joiners t r)) 512))

pub taken_when : (t : Observers) (r : Reports) (a : Alert) → is_well_formed t a ≡ true → (t.is_member a.subject || is_in (subjects r) a.subject) ≡ true → is_taken t r a ≡ true
taken_when t r a w h = taken_as t r a w ∙ ap (λ b. b || nat_lt (length (joiners t r)) 512) h

pub taken_where_room : (t : Observers) (r : Reports) (a : Alert) → is_well_formed t a ≡ true → (t.is_member a.subject || is_in (subjects r) a.subject) ≡ false → is_taken t r a ≡ nat_lt (length (joiners t r)) 512
taken_where_room t r a w h = taken_as t r a w ∙ ap (λ b. b || nat_lt (length (joiners t r)) 512) h
