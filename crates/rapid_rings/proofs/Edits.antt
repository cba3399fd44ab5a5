-- Seats put in their places.
use Rattle.std.proofs.Common.{◌≡◌, ℕ, ◌+◌, ◌-◌, ◌<◌, ◌≤◌, Bool, true, false, List, [], ◌∷◌, ◌++◌, length, get_or, take, refl, sym, ap, subst, ◌∙◌, inl, inr, arith}
use Rattle.std.specs.List.{insert}
use Rattle.std.specs.List.Sorted.{IsPartitionPoint, IsPartitionedBy, IsPermutation}
use Rattle.std.specs.declared.cmp.Ordering.{Ordering}
use Rattle.std.specs.declared.cmp.Ordering.TheVariants.{Less, Equal, Greater}
use Rattle.std.specs.Ordering.{ordering_reverse, ordering_index, is_lt}
use Rattle.std.proofs.lemmas.Bool.{cases_lt, cases_order}
use Rattle.std.proofs.lemmas.List.{take_more, append_assoc}
use Rattle.std.proofs.lemmas.List.Edits.{length-insert, get_or-insert_below, get_or-insert_at, get_or-insert_above}
use Rattle.std.proofs.lemmas.List.Sorted.{searchable_from_sorted, IsPermutation-insert, IsPermutation-trans, IsPermutation-to_front, IsPermutation-append_left}
use Rattle.rapid_rings.specs.Seats.{Placed, placed_cmp, PlacedAscend}
use Rattle.rapid_rings.proofs.Arrivals.{placed_total}
use Rattle.rapid_model.proofs.Logic.{not_back}

abbrev is_placed_below : Placed → Placed → Bool
is_placed_below x y = is_lt (placed_cmp x y)

turned_placed : (x y : Placed) → placed_cmp y x ≡ ordering_reverse (placed_cmp x y)
turned_placed x y = placed_total.antisymm y x

-- ---- one more seat

-- a seat before those that are not below it
pub inserted_ascends : (xs : List Placed) (s : Placed) (i : ℕ) → PlacedAscend xs → i ≤ length xs
    → IsPartitionPoint (λ y. is_lt (placed_cmp y s) ≡ true) (λ y. is_lt (placed_cmp y s) ≡ false) xs i → PlacedAscend (insert xs i s)
inserted_ascends xs s i up le point k d z l =
    let long : length (insert xs i s) ≡ length xs + 1 = length-insert xs i s le in
    elim (cases_order (k + 1) i) [
      | inl same ↦
          rw (ap (λ n. get_or (insert xs i s) n d) same ∙ get_or-insert_at xs i s d le, get_or-insert_below xs i s d k (omega (arith, same)) le)
          (ap is_lt (turned_placed (get_or xs k d) s) ∙ not_back (placed_cmp (get_or xs k d) s) (point.0 k d (omega arith) (omega (arith, same))))
      | inr (inl below) ↦
          rw (get_or-insert_below xs i s d (k + 1) below le, get_or-insert_below xs i s d k (omega (arith, below)) le) (up k d z (omega (arith, below, le)))
      | inr (inr above) ↦ after (omega (arith, long, l)) (omega (arith, above))
    ]
  where
    after : k < length xs → i ≤ k → is_placed_below (get_or (insert xs i s) (k + 1) d) (get_or (insert xs i s) k d) ≡ false
    after m from =
        elim (cases_lt i k) [
          | inl past ↦
              let e : (k - 1) + 1 ≡ k = omega (arith, past) in
              subst (λ n. is_placed_below (get_or (insert xs i s) (n + 1) d) (get_or (insert xs i s) n d) ≡ false) e
              (rw (get_or-insert_above xs i s d ((k - 1) + 1) (omega (arith, past, e)) le, get_or-insert_above xs i s d (k - 1) (omega (arith, past)) le)
              (up (k - 1) d (omega arith) (omega (arith, m, e))))
          | inr here ↦
              let e : k ≡ i = omega (arith, here, from) in
              rw (get_or-insert_above xs i s d k from le, ap (λ n. get_or (insert xs i s) n d) e ∙ get_or-insert_at xs i s d le) (point.1 k d from m)
        ]

-- with one more at its end, or in its place
pub inserted_there : (xs ys : List Placed) (s : Placed) (i : ℕ) → ys ≡ insert xs i s → IsPermutation (xs ++ s ∷ []) ys
inserted_there xs ys s i e =
    subst (IsPermutation (xs ++ s ∷ [])) (sym e)
    (IsPermutation-trans (xs ++ s ∷ []) (s ∷ xs) (insert xs i s) (IsPermutation-to_front xs s) (IsPermutation-insert xs i s))

-- one more of those that are put in their places
pub permuted_more : (before more now after : List Placed) (i : ℕ) (x : Placed) → i < length more → x ≡ get_or more i x → IsPermutation (before ++ take i more) now → IsPermutation (now ++ x ∷ []) after
    → IsPermutation (before ++ take (i + 1) more) after
permuted_more before more now after i x lt is h k =
    subst (λ (xs : List Placed). IsPermutation xs after)
    (append_assoc before (take i more) (x ∷ []) ∙ ap (λ (xs : List Placed). before ++ xs) (sym (take_more more i x lt ∙ ap (λ p. take i more ++ p ∷ []) (sym is))))
    (IsPermutation-trans ((before ++ take i more) ++ x ∷ []) (now ++ x ∷ []) after (IsPermutation-append_left (x ∷ []) (before ++ take i more) now h) k)

-- no seat lies before the place where those below it end
pub below_first : (xs : List Placed) (s : Placed) → PlacedAscend xs → IsPartitionedBy (λ y. is_lt (placed_cmp y s)) xs
below_first xs s up i j d le l h =
    keeps_lt (placed_cmp (get_or xs i d) s) (placed_cmp (get_or xs j d) s) (searchable_from_sorted placed_total (λ (y : Placed). y) xs s up i j d le l) h
  where
    keeps_lt : (a b : Ordering) → ordering_index a ≤ ordering_index b → is_lt b ≡ true → is_lt a ≡ true
    keeps_lt Less b h e = refl
    keeps_lt Equal Less h e = absurd (omega (arith, h))
    keeps_lt Equal Equal h e = cc
    keeps_lt Equal Greater h e = cc
    keeps_lt Greater Less h e = absurd (omega (arith, h))
    keeps_lt Greater Equal h e = cc
    keeps_lt Greater Greater h e = cc
