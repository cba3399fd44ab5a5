-- Processes put in their places among those that ascend: two lists are merged, stretch by stretch.
use Rattle.std.proofs.Common.{◌≡◌, ℕ, zero, suc, ◌+◌, ◌<◌, ◌≤◌, Bool, true, false, ◌||◌, List, [], ◌∷◌, ◌++◌, length, take, drop, get_or, refl, sym, ap, subst, ◌∙◌, arith, add-one}
use Rattle.std.specs.List.{AllByRecursion, AppendsClones}
use Rattle.std.specs.List.Sorted.{IsStrictlySortedBy, IsPartitionPoint, IsNonDecreasingBy}
use Rattle.std.specs.declared.cmp.Ordering.TheVariants.{Less, Equal, Greater}
use Rattle.std.specs.Ordering.{is_lt, ordering_index, ordering_reverse, match_ordering}
use Rattle.std.specs.BTreeSet.{insert_key}
use Rattle.std.proofs.lemmas.List.{append_assoc, take_more}
use Rattle.std.proofs.lemmas.List.Elements.{same_from_all_zip}
use Rattle.std.proofs.lemmas.List.Folds.{list_any-append}
use Rattle.std.proofs.lemmas.List.Sorted.{searchable_from_sorted}
use Rattle.std.proofs.lemmas.Map.Keys.{Less-from_sorted}
use Rattle.rapid_model.specs.Process.{Process, process_cmp, same_bytes, is_in}
use Rattle.rapid_model.specs.InOrder.{in_order}
use Rattle.rapid_model.proofs.Orders.{processes_total, processes_exact}
use Rattle.rapid_model.proofs.InOrder.{any_insert, any_in_order, sorted_insert, sorted_in_order, same_sorted}
use Rattle.rapid_cut.specs.Merging.{PutsBelow}

-- each of the list is above x
abbrev Above : Process → List Process → Type 0
Above x ys = AllByRecursion (λ y. process_cmp x y ≡ Less) ys

turned : (x y : Process) → process_cmp x y ≡ Less → process_cmp y x ≡ Greater
turned x y h = processes_total.antisymm y x ∙ ap ordering_reverse h

-- ---- one process in its place

-- the answers of a search rise
pub rising : (ps : List Process) (p : Process) → IsStrictlySortedBy process_cmp ps → IsNonDecreasingBy (λ y. ordering_index (process_cmp y p)) ps
rising ps p s =
    searchable_from_sorted processes_total (λ (y : Process). y) ps p
    (λ k d z l. ap is_lt (turned (get_or ps k d) (get_or ps (k + 1) d) (Less-from_sorted process_cmp ps k (k + 1) d s (omega arith) l)))

at_found : (xs : List Process) (g : Process) (i : ℕ) → IsStrictlySortedBy process_cmp xs → i < length xs → ((d : Process) → process_cmp (get_or xs i d) g ≡ Equal) → take i xs ++ g ∷ drop (suc i) xs ≡ insert_key process_cmp xs g
unfolding IsStrictlySortedBy
at_found [] g i s below e = absurd (omega (arith, below))
at_found (x ∷ xs) g zero s below e =
    ap (λ y. y ∷ xs) (sym (processes_exact x g (e x)))
    ∙ sym (ap (λ r. match_ordering r (g ∷ x ∷ xs) (x ∷ xs) (x ∷ insert_key process_cmp xs g)) (processes_total.antisymm g x ∙ ap ordering_reverse (e x)))
at_found (x ∷ xs) g (suc i) s below e =
    let first : process_cmp x (get_or xs i x) ≡ Less = Less-from_sorted process_cmp (x ∷ xs) 0 (suc i) x s (omega arith) below in
    let less : process_cmp x g ≡ Less = subst (λ y. process_cmp x y ≡ Less) (processes_exact (get_or xs i x) g (e x)) first in
    ap (λ ys. x ∷ ys) (at_found xs g i s.1 (omega (arith, below)) e)
    ∙ sym (ap (λ r. match_ordering r (g ∷ x ∷ xs) (x ∷ xs) (x ∷ insert_key process_cmp xs g)) (turned x g less))

-- a process that is there
pub put_at_found : (xs : List Process) (g : Process) (i : ℕ) → IsStrictlySortedBy process_cmp xs → i < length xs → ((d : Process) → process_cmp (get_or xs i d) g ≡ Equal)
    → (take (i + 1) xs ≡ take i xs ++ g ∷ []) × (take i xs ++ g ∷ drop (i + 1) xs ≡ insert_key process_cmp xs g)
put_at_found xs g i s below e = (
  take_more xs i g below ∙ ap (λ y. take i xs ++ y ∷ []) (processes_exact (get_or xs i g) g (e g)),
  ap (λ n. take i xs ++ g ∷ drop n xs) (add-one i) ∙ at_found xs g i s below e,
)

-- a process that is not
pub put_at_gap : (xs : List Process) (g : Process) (i : ℕ) → i ≤ length xs → IsPartitionPoint (λ y. process_cmp y g ≡ Less) (λ y. process_cmp y g ≡ Greater) xs i → take i xs ++ g ∷ drop i xs ≡ insert_key process_cmp xs g
put_at_gap [] g zero within point = refl
put_at_gap [] g (suc i) within point = absurd (omega (arith, within))
put_at_gap (x ∷ xs) g zero within point =
    sym (ap (λ r. match_ordering r (g ∷ x ∷ xs) (x ∷ xs) (x ∷ insert_key process_cmp xs g)) (processes_total.antisymm g x ∙ ap ordering_reverse (point.1 0 x (omega arith) (omega arith))))
put_at_gap (x ∷ xs) g (suc i) within point =
    ap (λ ys. x ∷ ys) (put_at_gap xs g i (omega (arith, within)) (
      λ k d low high. point.0 (suc k) d (omega (arith, low)) (omega (arith, high)),
      λ k d low high. point.1 (suc k) d (omega (arith, low)) (omega (arith, high)),
    ))
    ∙ sym (ap (λ r. match_ordering r (g ∷ x ∷ xs) (x ∷ xs) (x ∷ insert_key process_cmp xs g)) (turned x g (point.0 0 x (omega arith) (omega arith))))

-- ---- one after another

-- clones that are equal to what they are made of
pub clones_added : (old new more : List Process) → AppendsClones (λ p q. q ≡ p) old new more → new ≡ old ++ more
clones_added old new more (ys, e, alike) = e ∙ ap (λ ps. old ++ ps) (same_from_all_zip (λ p q. q ≡ p) more ys alike (λ p q same. same))

above_at : (x g : Process) (xs zs : List Process) → Above x (xs ++ g ∷ zs) → process_cmp x g ≡ Less
above_at x g [] zs a = a.0
above_at x g (y ∷ xs) zs a = above_at x g xs zs a.1

-- what is above all of a list finds its place behind them
behind_all : (xs ys zs : List Process) (g : Process) → IsStrictlySortedBy process_cmp (xs ++ g ∷ zs) → insert_key process_cmp (xs ++ ys) g ≡ xs ++ insert_key process_cmp ys g
unfolding IsStrictlySortedBy
behind_all [] ys zs g s = refl
behind_all (x ∷ xs) ys zs g s =
    ap (λ r. match_ordering r (g ∷ x ∷ (xs ++ ys)) (x ∷ (xs ++ ys)) (x ∷ insert_key process_cmp (xs ++ ys) g)) (turned x g (above_at x g xs zs s.0))
    ∙ ap (λ l. x ∷ l) (behind_all xs ys zs g s.1)

above_more : (x y : Process) (ys : List Process) → process_cmp x y ≡ Less → Above y ys → Above x ys
above_more x y [] h a = tt
above_more x y (z ∷ zs) h a = (processes_total.trans x y z h a.0, above_more x y zs h a.1)

above_both : (x g : Process) (xs ls zs : List Process) → Above x (xs ++ g ∷ ls) → Above g zs → Above x (xs ++ g ∷ zs)
above_both x g [] ls zs a b = (a.0, above_more x g zs a.0 b)
above_both x g (y ∷ xs) ls zs a b = (a.0, above_both x g xs ls zs a.1 b)

-- a list up to a process, and another from it
sorted_both : (xs ls zs : List Process) (g : Process) → IsStrictlySortedBy process_cmp (xs ++ g ∷ ls) → IsStrictlySortedBy process_cmp (g ∷ zs) → IsStrictlySortedBy process_cmp (xs ++ g ∷ zs)
unfolding IsStrictlySortedBy
sorted_both [] ls zs g s t = t
sorted_both (x ∷ xs) ls zs g s t = (above_both x g xs ls zs s.0 t.0, sorted_both xs ls zs g s.1 t)

pub sorted_end : (xs ys : List Process) → IsStrictlySortedBy process_cmp (xs ++ ys) → IsStrictlySortedBy process_cmp ys
unfolding IsStrictlySortedBy
sorted_end [] ys s = s
sorted_end (x ∷ xs) ys s = sorted_end xs ys s.1

-- found is in order, and before what is left of either list; with what is left of the first, it has the first and what
-- was done of the second
pub record IsMerging (first done left found rest : List Process) : Type 0 where
  pub sorted : IsStrictlySortedBy process_cmp (found ++ rest)
  pub behind : IsStrictlySortedBy process_cmp (found ++ left)
  pub alike : (q : Process) → is_in (found ++ rest) q ≡ (is_in first q || is_in done q)

or_false : (b : Bool) → (b || false) ≡ b
or_false true = refl
or_false false = refl

pub merging_none : (first left found : List Process) → found ≡ [] → IsStrictlySortedBy process_cmp first → IsStrictlySortedBy process_cmp left → IsMerging first [] left found first
merging_none first left found e s t =
    subst (λ f. IsMerging first [] left f first) (sym e) (record { sorted = s; behind = t; alike = λ q. sym (or_false (is_in first q)) })

-- the same with a process between
spread : (xs below zs : List Process) (g : Process) → (xs ++ (below ++ g ∷ [])) ++ zs ≡ (xs ++ below) ++ g ∷ zs
spread xs below zs g = ap (λ l. l ++ zs) (sym (append_assoc xs below (g ∷ []))) ∙ append_assoc (xs ++ below) (g ∷ []) zs

or_turn : (a b c : Bool) → (a || (b || c)) ≡ (b || (c || (a || false)))
or_turn true true c = refl
or_turn true false true = refl
or_turn true false false = refl
or_turn false true c = refl
or_turn false false true = refl
or_turn false false false = refl

pub merging_one : (first done more_done left later found rest more above : List Process) (g : Process) → left ≡ g ∷ later → more_done ≡ done ++ g ∷ [] → PutsBelow found rest g more above
    → IsMerging first done left found rest → IsMerging first more_done later more above
merging_one first done more_done left later found rest more above g l d (below, m, p) h =
    let behind : IsStrictlySortedBy process_cmp (found ++ g ∷ later) = subst (λ ls. IsStrictlySortedBy process_cmp (found ++ ls)) l h.behind in
    let split : more ++ above ≡ (found ++ below) ++ g ∷ above = ap (λ ys. ys ++ above) m ∙ spread found below above g in
    let whole : more ++ above ≡ insert_key process_cmp (found ++ rest) g =
    split ∙ append_assoc found below (g ∷ above) ∙ ap (λ ys. found ++ ys) p ∙ sym (behind_all found rest later g behind) in
    let sorted : IsStrictlySortedBy process_cmp (more ++ above) = subst (IsStrictlySortedBy process_cmp) (sym whole) (sorted_insert process_cmp processes_total (found ++ rest) g h.sorted) in
    record {
      sorted = sorted;
      behind =
          subst (IsStrictlySortedBy process_cmp) (sym (ap (λ ys. ys ++ later) m ∙ spread found below later g))
          (sorted_both (found ++ below) above later g (subst (IsStrictlySortedBy process_cmp) split sorted) (sorted_end found (g ∷ later) behind));
      alike = λ q.
          ap (λ ys. is_in ys q) whole ∙ any_insert process_cmp processes_total (found ++ rest) g q
          ∙ ap (λ b. same_bytes q g || b) (h.alike q) ∙ or_turn (same_bytes q g) (is_in first q) (is_in done q)
          ∙ ap (λ b. is_in first q || b) (sym (ap (λ ys. is_in ys q) d ∙ list_any-append (same_bytes q) done (g ∷ [])));
    }

-- both lists in one
pub merging_all : (first second done left found rest all : List Process) → done ≡ second → all ≡ found ++ rest → IsMerging first done left found rest → all ≡ in_order process_cmp (first ++ second)
merging_all first second done left found rest all d a h =
    a ∙ same_sorted process_cmp processes_total processes_exact _ _ h.sorted (sorted_in_order process_cmp processes_total (first ++ second))
    (λ q. h.alike q ∙ ap (λ ys. is_in first q || is_in ys q) d ∙ sym (list_any-append (same_bytes q) first second) ∙ sym (any_in_order process_cmp processes_total (first ++ second) q))
