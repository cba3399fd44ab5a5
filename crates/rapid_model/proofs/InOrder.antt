-- What stands in order, each once: it is sorted, it has what the list has, and no other list is so.
use Rattle.std.proofs.Common.{◌≡◌, Bool, true, false, ◌&&◌, ◌||◌, List, [], ◌∷◌, refl, sym, ap, ◌∙◌}
use Rattle.std.specs.List.{list_any, list_all, AllByRecursion}
use Rattle.std.specs.List.Sorted.{IsStrictlySortedBy}
use Rattle.std.specs.declared.cmp.Ordering.{Ordering}
use Rattle.std.specs.declared.cmp.Ordering.TheVariants.{Less, Equal, Greater}
use Rattle.std.specs.Ordering.{eq_by_cmp, is_eq, is_lt, ordering_reverse, match_ordering}
use Rattle.std.specs.Cmp.{IsTotalOrder, tied_itself, alike_right}
use Rattle.std.specs.BTreeSet.{insert_key}
use Rattle.std.specs.FinSet.{IsAntisymmetric}
use Rattle.rapid_model.specs.Process.{Process, process_cmp}
use Rattle.rapid_model.specs.Cut.{is_ascending}
use Rattle.rapid_model.specs.InOrder.{in_order}
use Rattle.rapid_model.proofs.Logic.{or_swap, equal_is}

or_again : (a b c : Bool) → (a ≡ true → b ≡ true) → (a || (b || c)) ≡ (b || c)
or_again true b c h = sym (ap (λ x. x || c) (h refl))
or_again false b c h = refl

module _ {K : Type 0} (R : K → K → Ordering) (o : IsTotalOrder R) where
  -- each of ys is above x
  abbrev Above : K → List K → Type 0
  Above x ys = AllByRecursion (λ y. R x y ≡ Less) ys

  above_insert : (x k : K) (ys : List K) → R x k ≡ Less → Above x ys → Above x (insert_key R ys k)
  above_insert x k [] h a = (h, tt)
  above_insert x k (y ∷ ys) h a =
      elim (R k y) as (λ r. Above x (match_ordering r (k ∷ y ∷ ys) (y ∷ ys) (y ∷ insert_key R ys k))) [
        | Less ↦ (h, a)
        | Equal ↦ a
        | Greater ↦ (a.0, above_insert x k ys h a.1)
      ]

  above_below : (x y : K) (ys : List K) → R x y ≡ Less → Above y ys → Above x ys
  above_below x y [] h a = tt
  above_below x y (z ∷ zs) h a = (o.trans x y z h a.0, above_below x y zs h a.1)

  pub sorted_insert : (ys : List K) (k : K) → IsStrictlySortedBy R ys → IsStrictlySortedBy R (insert_key R ys k)
  unfolding IsStrictlySortedBy
  sorted_insert [] k s = (tt, tt)
  sorted_insert (y ∷ ys) k s =
      elim (R k y) as (λ r. R k y ≡ r → IsStrictlySortedBy R (match_ordering r (k ∷ y ∷ ys) (y ∷ ys) (y ∷ insert_key R ys k))) [
        | Less ↦ λ e. ((e, above_below k y ys e s.0), s)
        | Equal ↦ λ e. s
        | Greater ↦ λ e. (above_insert y k ys (o.antisymm y k ∙ ap ordering_reverse e) s.0, sorted_insert ys k s.1)
      ] refl

  pub sorted_in_order : (xs : List K) → IsStrictlySortedBy R (in_order R xs)
  unfolding IsStrictlySortedBy
  sorted_in_order [] = tt
  sorted_in_order (x ∷ xs) = sorted_insert (in_order R xs) x (sorted_in_order xs)

  pub any_insert : (ys : List K) (k q : K) → list_any (eq_by_cmp R q) (insert_key R ys k) ≡ (eq_by_cmp R q k || list_any (eq_by_cmp R q) ys)
  any_insert [] k q = refl
  any_insert (y ∷ ys) k q =
      elim (R k y) as (λ r. R k y ≡ r → list_any (eq_by_cmp R q) (match_ordering r (k ∷ y ∷ ys) (y ∷ ys) (y ∷ insert_key R ys k)) ≡ (eq_by_cmp R q k || (eq_by_cmp R q y || list_any (eq_by_cmp R q) ys))) [
        | Less ↦ λ e. refl
        | Equal ↦ λ e. sym (or_again (eq_by_cmp R q k) (eq_by_cmp R q y) _ (λ h. ap is_eq (sym (alike_right o k y q e)) ∙ h))
        | Greater ↦ λ e. ap (λ b. eq_by_cmp R q y || b) (any_insert ys k q) ∙ or_swap (eq_by_cmp R q y) (eq_by_cmp R q k) _
      ] refl

  pub any_in_order : (xs : List K) (q : K) → list_any (eq_by_cmp R q) (in_order R xs) ≡ list_any (eq_by_cmp R q) xs
  any_in_order [] q = refl
  any_in_order (x ∷ xs) q = any_insert (in_order R xs) x q ∙ ap (λ b. eq_by_cmp R q x || b) (any_in_order xs q)

  none_above : (x q : K) (ys : List K) → R q x ≡ Equal → Above x ys → list_any (eq_by_cmp R q) ys ≡ false
  none_above x q [] e a = refl
  none_above x q (y ∷ ys) e a = let n : eq_by_cmp R q y ≡ false = ap is_eq (o.congr q x y e ∙ a.0) in ap (λ b. b || list_any (eq_by_cmp R q) ys) n ∙ none_above x q ys e a.1

  none_less : (q x : K) (ys : List K) → R q x ≡ Less → Above x ys → list_any (eq_by_cmp R q) (x ∷ ys) ≡ false
  none_less q x ys e a = ap (λ r. is_eq r || list_any (eq_by_cmp R q) ys) e ∙ none_at q ys (above_below q x ys e a)
    where
      none_at : (q : K) (ys : List K) → Above q ys → list_any (eq_by_cmp R q) ys ≡ false
      none_at q [] a = refl
      none_at q (y ∷ ys) a = ap (λ r. is_eq r || list_any (eq_by_cmp R q) ys) a.0 ∙ none_at q ys a.1

  own : (x : K) (xs : List K) → list_any (eq_by_cmp R x) (x ∷ xs) ≡ true
  own x xs = ap (λ r. is_eq r || list_any (eq_by_cmp R x) xs) (tied_itself o x)

  no_both : (b : Bool) → b ≡ true → b ≡ false → ⊥
  no_both b h k = cc

  abbrev Alike : List K → List K → Type 0
  Alike xs ys = (q : K) → list_any (eq_by_cmp R q) xs ≡ list_any (eq_by_cmp R q) ys

  alike_tails : (x y : K) (xs ys : List K) → R x y ≡ Equal → Above x xs → Above y ys → Alike (x ∷ xs) (y ∷ ys) → Alike xs ys
  alike_tails x y xs ys e a b h q =
      elim (eq_by_cmp R q x) as (λ t. eq_by_cmp R q x ≡ t → list_any (eq_by_cmp R q) xs ≡ list_any (eq_by_cmp R q) ys) [
        | true ↦ λ t. let qx = equal_is (R q x) t in none_above x q xs qx a ∙ sym (none_above y q ys (o.congr q x y qx ∙ e) b)
        | false ↦ λ t.
            let other : eq_by_cmp R q y ≡ false = ap is_eq (sym (alike_right o x y q e)) ∙ t in
            sym (ap (λ c. c || list_any (eq_by_cmp R q) xs) t) ∙ h q ∙ ap (λ c. c || list_any (eq_by_cmp R q) ys) other
      ] refl

  -- two sorted lists that have the same are one
  pub same_sorted : IsAntisymmetric R → (xs ys : List K) → IsStrictlySortedBy R xs → IsStrictlySortedBy R ys → ((q : K) → list_any (eq_by_cmp R q) xs ≡ list_any (eq_by_cmp R q) ys) → xs ≡ ys
  unfolding IsStrictlySortedBy
  same_sorted exact [] [] s t h = refl
  same_sorted exact [] (y ∷ ys) s t h = absurd (no_both _ (own y ys) (sym (h y)))
  same_sorted exact (x ∷ xs) [] s t h = absurd (no_both _ (own x xs) (h x))
  same_sorted exact (x ∷ xs) (y ∷ ys) s t h =
      elim (R x y) as (λ r. R x y ≡ r → x ∷ xs ≡ y ∷ ys) [
        | Less ↦ λ e. absurd (no_both _ (own x xs) (h x ∙ none_less x y ys e t.0))
        | Greater ↦ λ e. absurd (no_both _ (own y ys) (sym (h y) ∙ none_less y x xs (o.antisymm y x ∙ ap ordering_reverse e) s.0))
        | Equal ↦ λ e.
            let head = exact x y e in
            let rest = same_sorted exact xs ys s.1 t.1 (alike_tails x y xs ys e s.0 t.0 h) in
            λ i. head i ∷ rest i
      ] refl

-- a sorted list of processes ascends
pub ascends : (ps : List Process) → IsStrictlySortedBy process_cmp ps → is_ascending ps ≡ true
unfolding IsStrictlySortedBy
ascends [] s = refl
ascends (p ∷ ps) s = ap (λ b. b && is_ascending ps) (all_above ps s.0) ∙ ascends ps s.1
  where
    all_above : (qs : List Process) → AllByRecursion (λ q. process_cmp p q ≡ Less) qs → list_all (λ q. is_lt (process_cmp p q)) qs ≡ true
    all_above [] a = refl
    all_above (q ∷ qs) a = ap (λ r. is_lt r && list_all (λ q. is_lt (process_cmp p q)) qs) a.0 ∙ all_above qs a.1
