-- Entries that ascend by their keys: where a key stands, and what a search and a change at its place give.
use Rattle.std.proofs.Common.{◌≡◌, ℕ, zero, suc, ◌≤◌, ◌<◌, Bool, true, false, cond, T, ◌&&◌, List, [], ◌∷◌, length, set, get_or, refl, sym, ap, subst, ◌∙◌, arith, inl, inr, ◌⊎◌, Some, None}
use Rattle.std.specs.declared.cmp.Ordering.{Ordering}
use Rattle.std.specs.declared.cmp.Ordering.TheVariants.{Less, Equal, Greater}
use Rattle.std.specs.Ordering.{is_eq, ordering_reverse, ordering_index}
use Rattle.std.specs.Cmp.{IsTotalOrder, alike_right, tied_back}
use Rattle.std.specs.List.{insert, AllWithin}
use Rattle.std.specs.List.Sorted.{IsNonDecreasingBy}
use Rattle.std.specs.FinMap.Entries.{put, find, is_sorted, below_all, by_order}
use Rattle.std.proofs.lemmas.Bool.{and_parts, cases_eq}
use Rattle.rapid_model.proofs.Logic.{less_is}

from_T : (b : Bool) → T b → b ≡ true
from_T true h = refl
from_T false h = absurd h

to_T : (b : Bool) → b ≡ true → T b
to_T b e = subst T (sym e) tt

first_of_both : (a b : Bool) → T (a && b) → T a
first_of_both a b h = to_T a (and_parts a b (from_T (a && b) h)).0

second_of_both : (a b : Bool) → T (a && b) → T b
second_of_both a b h = to_T b (and_parts a b (from_T (a && b) h)).1

index_of-upto : (r : Ordering) → ordering_index r ≤ 2
index_of-upto Less = omega arith
index_of-upto Equal = omega arith
index_of-upto Greater = omega arith

index_rises : {K : Type 0} {R : K → K → Ordering} → IsTotalOrder R → (a b k : K) → R a b ≡ Less → ordering_index (R a k) ≤ ordering_index (R b k)
index_rises {R = R} o a b k less = at (R b k) refl
  where
    at : (r : Ordering) → R b k ≡ r → ordering_index (R a k) ≤ ordering_index r
    at Less e = rw (o.trans a b k less e) (omega arith)
    at Equal e = rw (sym (alike_right o b k a e) ∙ less) (omega arith)
    at Greater e = index_of-upto (R a k)

module _ {K X : Type 0} {R : K → K → Ordering} (o : IsTotalOrder R) where
  below_at : (x : K) (es : List (K × X)) (i : ℕ) (d : K × X) → T (below_all R x es) → i < length es → R x (get_or es i d).0 ≡ Less
  below_at x [] i d h l = absurd (omega arith)
  below_at x (e ∷ es) zero d h l = less_is _ (from_T _ (first_of_both _ _ h))
  below_at x (e ∷ es) (suc i) d h l = below_at x es i d (second_of_both _ _ h) (omega arith)

  sorted_at : (es : List (K × X)) (i j : ℕ) (d : K × X) → T (is_sorted R es) → i < j → j < length es → R (get_or es i d).0 (get_or es j d).0 ≡ Less
  sorted_at [] i j d s h l = absurd (omega arith)
  sorted_at (e ∷ es) zero zero d s h l = absurd (omega arith)
  sorted_at (e ∷ es) zero (suc j) d s h l = below_at e.0 es j d (first_of_both _ _ s) (omega arith)
  sorted_at (e ∷ es) (suc i) zero d s h l = absurd (omega arith)
  sorted_at (e ∷ es) (suc i) (suc j) d s h l = sorted_at es i j d (second_of_both _ _ s) (omega arith) (omega arith)

  pub searchable : (es : List (K × X)) (k : K) → T (is_sorted R es) → IsNonDecreasingBy (λ e. ordering_index (R e.0 k)) es
  searchable es k s i j d h l = by (cases_eq i j)
    where
      by : ((i ≡ j) ⊎ (i ≡ j → ⊥)) → ordering_index (R (get_or es i d).0 k) ≤ ordering_index (R (get_or es j d).0 k)
      by (inl same) = rw same (omega arith)
      by (inr other) = index_rises o (get_or es i d).0 (get_or es j d).0 k (sorted_at es i j d s (omega (arith, other)) l)

  module _ (k : K) where
    -- what comes before the place of a key that ties is skipped
    pub put_found : (es : List (K × X)) (i : ℕ) (v : X) (d : K × X) → T (is_sorted R es) → i < length es → R (get_or es i d).0 k ≡ Equal → put R k v es ≡ set es i ((get_or es i d).0, v)
    put_found [] i v d s h t = absurd (omega arith)
    put_found (e ∷ es) zero v d s h t = ap (λ r. by_order r ((k, v) ∷ e ∷ es) ((e.0, v) ∷ es) (e ∷ put R k v es)) (tied_back o e.0 k t)
    put_found (e ∷ es) (suc i) v d s h t =
        let less : R e.0 k ≡ Less = sym (alike_right o (get_or es i d).0 k e.0 t) ∙ below_at e.0 es i d (first_of_both _ _ s) (omega arith) in
        ap (λ r. by_order r ((k, v) ∷ e ∷ es) ((e.0, v) ∷ es) (e ∷ put R k v es)) (o.antisymm k e.0 ∙ ap ordering_reverse less)
        ∙ ap (λ l. e ∷ l) (put_found es i v d (second_of_both _ _ s) (omega arith) t)

    pub find_found : (es : List (K × X)) (i : ℕ) (d : K × X) → T (is_sorted R es) → i < length es → R (get_or es i d).0 k ≡ Equal → find R k es ≡ Some (get_or es i d).1
    find_found [] i d s h t = absurd (omega arith)
    find_found (e ∷ es) zero d s h t = ap (λ r. cond (is_eq r) (Some e.1) (find R k es)) (tied_back o e.0 k t)
    find_found (e ∷ es) (suc i) d s h t =
        let less : R e.0 k ≡ Less = sym (alike_right o (get_or es i d).0 k e.0 t) ∙ below_at e.0 es i d (first_of_both _ _ s) (omega arith) in
        ap (λ r. cond (is_eq r) (Some e.1) (find R k es)) (o.antisymm k e.0 ∙ ap ordering_reverse less)
        ∙ find_found es i d (second_of_both _ _ s) (omega arith) t

    pub put_missing : (es : List (K × X)) (i : ℕ) (v : X) → i ≤ length es → AllWithin (λ e. R e.0 k ≡ Less) es 0 i → AllWithin (λ e. R e.0 k ≡ Greater) es i (length es) → put R k v es ≡ insert es i (k, v)
    put_missing [] zero v h low high = refl
    put_missing [] (suc i) v h low high = absurd (omega arith)
    put_missing (e ∷ es) zero v h low high =
        ap (λ r. by_order r ((k, v) ∷ e ∷ es) ((e.0, v) ∷ es) (e ∷ put R k v es)) (o.antisymm k e.0 ∙ ap ordering_reverse (high 0 e (omega arith) (omega arith)))
    put_missing (e ∷ es) (suc i) v h low high =
        ap (λ r. by_order r ((k, v) ∷ e ∷ es) ((e.0, v) ∷ es) (e ∷ put R k v es)) (o.antisymm k e.0 ∙ ap ordering_reverse (low 0 e (omega arith) (omega arith)))
        ∙ ap (λ l. e ∷ l) (put_missing es i v (omega arith) (λ j d a b. low (suc j) d (omega arith) (omega arith)) (λ j d a b. high (suc j) d (omega arith) (omega arith)))

    pub find_missing : (es : List (K × X)) (i : ℕ) → i ≤ length es → AllWithin (λ e. R e.0 k ≡ Less) es 0 i → AllWithin (λ e. R e.0 k ≡ Greater) es i (length es) → find R k es ≡ None
    find_missing [] i h low high = refl
    find_missing (e ∷ es) zero h low high =
        ap (λ r. cond (is_eq r) (Some e.1) (find R k es)) (o.antisymm k e.0 ∙ ap ordering_reverse (high 0 e (omega arith) (omega arith)))
        ∙ find_missing es zero (omega arith) (λ j d a b. absurd (omega arith)) (λ j d a b. high (suc j) d (omega arith) (omega arith))
    find_missing (e ∷ es) (suc i) h low high =
        ap (λ r. cond (is_eq r) (Some e.1) (find R k es)) (o.antisymm k e.0 ∙ ap ordering_reverse (low 0 e (omega arith) (omega arith)))
        ∙ find_missing es i (omega arith) (λ j d a b. low (suc j) d (omega arith) (omega arith)) (λ j d a b. high (suc j) d (omega arith) (omega arith))
