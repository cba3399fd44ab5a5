-- Sets of reports by their keys in order.
use Rattle.std.proofs.Common.{◌≡◌, ℕ, inl, inr, Bool, true, false, ◌||◌, List, [], ◌∷◌, map, refl, sym, ap, subst, ◌∙◌}
use Rattle.std.specs.List.{list_any}
use Rattle.std.specs.List.Sorted.{IsStrictlySortedBy}
use Rattle.std.specs.Ordering.{eq_by_cmp}
use Rattle.std.specs.Cmp.{both_ways}
use Rattle.std.specs.BTreeSet.{insert_key}
use Rattle.std.specs.FinSet as set
use Rattle.rapid_model.specs.Process.{Process, process_cmp, is_in, same_bytes}
use Rattle.rapid_model.specs.Reports.{Report, report_cmp, Reports, subjects}
use Rattle.rapid_model.proofs.Orders.{reports_total, reports_exact, processes_total, processes_exact, tie_decides, same_bytes_decides}
use Rattle.rapid_model.proofs.InOrder.{any_insert, any_in_order, sorted_in_order, same_sorted, sorted_insert}
use Rattle.std.proofs.lemmas.Bool.{or_cases, or_left, or_right}

pub contains_keys : (ks : List Report) (x : Report) → list_any (eq_by_cmp report_cmp x) ks ≡ set.contains (set.from_list {R = report_cmp} ks) x
contains_keys ks x = sym (set.contains-from_list reports_total ks x)

pub from_insert_key : (ks : List Report) (x : Report) → set.from_list {R = report_cmp} (insert_key report_cmp ks x) ≡ set.insert (set.from_list ks) x
from_insert_key ks x =
    set.same_set reports_total reports_exact _ _ (λ q.
    set.contains-from_list reports_total (insert_key report_cmp ks x) q ∙ any_insert report_cmp reports_total ks x q
    ∙ ap (λ b. eq_by_cmp report_cmp q x || b) (contains_keys ks q)
    ∙ sym (set.contains-insert reports_total (set.from_list ks) x q))

-- ---- the processes that are reported on

abbrev on_of : List Report → List Process
on_of xs = map (λ (x : Report). x.0) xs

-- what was found, in order, and what is left make up the subjects of all
pub record HasSubjects (all : List Report) (found : List Process) (left : List Report) : Type 0 where
  pub sorted : IsStrictlySortedBy process_cmp found
  pub alike : (q : Process) → (is_in found q || is_in (on_of left) q) ≡ is_in (on_of all) q

pub no_subjects : (all : List Report) (found : List Process) → found ≡ [] → HasSubjects all found all
no_subjects all found e = subst (λ f. HasSubjects all f all) (sym e) (record { sorted = sorted_in_order process_cmp processes_total []; alike = λ q. refl })

or_turn : (a b c : Bool) → ((b || a) || c) ≡ (a || (b || c))
or_turn true true c = refl
or_turn true false c = refl
or_turn false true c = refl
or_turn false false c = refl

pub one_more_subject : (all : List Report) (found more : List Process) (left rest : List Report) (x : Report) → left ≡ x ∷ rest → more ≡ insert_key process_cmp found x.0 → HasSubjects all found left → HasSubjects all more rest
one_more_subject all found more left rest x e i h =
    subst (λ m. HasSubjects all m rest) (sym i) (record {
      sorted = sorted_insert process_cmp processes_total found x.0 h.sorted;
      alike = λ q.
          ap (λ b. b || is_in (on_of rest) q) (any_insert process_cmp processes_total found x.0 q)
          ∙ or_turn (is_in found q) (same_bytes q x.0) (is_in (on_of rest) q)
          ∙ ap (λ l. is_in found q || is_in (on_of l) q) (sym e)
          ∙ h.alike q;
    })

or_false : (b : Bool) → (b || false) ≡ b
or_false true = refl
or_false false = refl

-- a process is among the subjects exactly if some report is on it
pub on_one : (xs : List Report) (x : Report) → list_any (eq_by_cmp report_cmp x) xs ≡ true → is_in (on_of xs) x.0 ≡ true
on_one [] x h = h
on_one (y ∷ ys) x h =
    elim (or_cases (eq_by_cmp report_cmp x y) _ h) [
      | inl e ↦ or_left _ _ ((same_bytes_decides x.0 y.0).1 (ap (λ (z : Report). z.0) ((tie_decides reports_total reports_exact x y).0 e)))
      | inr later ↦ or_right _ _ (on_one ys x later)
    ]

pub one_on : (xs : List Report) (q : Process) → is_in (on_of xs) q ≡ true → (k : ℕ) × (list_any (eq_by_cmp report_cmp (q, k)) xs ≡ true)
one_on [] q h = (0, h)
one_on (y ∷ ys) q h =
    elim (or_cases (same_bytes q y.0) _ h) [
      | inl e ↦ (
        y.1,
        or_left _ _ ((tie_decides reports_total reports_exact (q, y.1) y).1 (ap (λ (p : Process). let x : Report = (p, y.1) in x) ((same_bytes_decides q y.0).0 e))),
      )
      | inr later ↦ (let r = one_on ys q later in (r.0, or_right _ _ r.1))
    ]

in_keys : (ks : List Report) (q : Process) → is_in (on_of (set.items (set.from_list {R = report_cmp} ks))) q ≡ is_in (on_of ks) q
in_keys ks q =
    both_ways _ _
    (λ h. let r = one_on (set.items (set.from_list ks)) q h in on_one ks (q, r.0) (contains_keys ks (q, r.0) ∙ set.contains-items (set.from_list ks) (q, r.0) ∙ r.1))
    (λ h. let r = one_on ks q h in on_one (set.items (set.from_list ks)) (q, r.0) (sym (set.contains-items (set.from_list ks) (q, r.0)) ∙ sym (contains_keys ks (q, r.0)) ∙ r.1))

pub all_subjects : (ks : List Report) (found : List Process) → HasSubjects ks found [] → found ≡ subjects (set.from_list ks)
unfolding subjects
all_subjects ks found h =
    same_sorted process_cmp processes_total processes_exact found _ h.sorted (sorted_in_order process_cmp processes_total (on_of (set.items (set.from_list {R = report_cmp} ks)))) (λ q.
    sym (or_false (is_in found q)) ∙ h.alike q ∙ sym (in_keys ks q) ∙ sym (any_in_order process_cmp processes_total (on_of (set.items (set.from_list {R = report_cmp} ks))) q))

-- a process is among the subjects of a set exactly if the set has a report on it
pub subject_of : (r : Reports) (x : Report) → set.contains r x ≡ true → is_in (subjects r) x.0 ≡ true
unfolding subjects
subject_of r x h = any_in_order process_cmp processes_total _ x.0 ∙ on_one (set.items r) x (sym (set.contains-items r x) ∙ h)

pub report_on : (r : Reports) (q : Process) → is_in (subjects r) q ≡ true → (k : ℕ) × (set.contains r (q, k) ≡ true)
unfolding subjects
report_on r q h =
    let o = one_on (set.items r) q (sym (any_in_order process_cmp processes_total _ q) ∙ h) in
    (o.0, set.contains-items r (q, o.0) ∙ o.1)
