-- A relation between the items of a list and what a loop has made of them so far.
use Rattle.std.proofs.Common.{◌≡◌, ℕ, zero, suc, ◌+◌, ◌<◌, ◌≤◌, List, [], ◌∷◌, length, set, get_or, take, drop, refl, sym, ap, ◌∙◌, ◌++◌, subst, arith, append-nil}
use Rattle.std.proofs.Math.Seq.{take-length}
use Rattle.std.specs.List.{AllZip}

module _ {A : Type 0} (R : A → A → Type 0) where
  -- the first n were changed so, and the others not
  abbrev pub Partly : ℕ → List A → List A → Type 0
  Partly zero old new = new ≡ old
  Partly (suc n) [] [] = Unit {0}
  Partly (suc n) [] (y ∷ ys) = ⊥
  Partly (suc n) (x ∷ xs) [] = ⊥
  Partly (suc n) (x ∷ xs) (y ∷ ys) = R x y × Partly n xs ys

  first_changed : (x : A) (xs old : List A) (y : A) → x ∷ xs ≡ old → R x y → Partly (suc zero) old (y ∷ xs)
  first_changed x xs old y is r = subst (λ l. Partly (suc zero) l (y ∷ xs)) is (r, refl)

  -- one more
  partly_more : (n : ℕ) (old new : List A) (d y : A) → Partly n old new → n < length new → R (get_or new n d) y → Partly (suc n) old (set new n y)
  partly_more zero old [] d y p h r = absurd (omega arith)
  partly_more zero old (x ∷ xs) d y p h r = first_changed x xs old y p r
  partly_more (suc n) [] [] d y p h r = absurd (omega arith)
  partly_more (suc n) [] (z ∷ zs) d y p h r = absurd p
  partly_more (suc n) (x ∷ xs) [] d y p h r = absurd p
  partly_more (suc n) (x ∷ xs) (z ∷ zs) d y p h r = (p.0, partly_more n xs zs d y p.1 (omega arith) r)

  -- the same, with the number that a loop has
  pub partly_next : (n : ℕ) (old new : List A) (d y : A) → Partly n old new → n < length new → R (get_or new n d) y → Partly (n + 1) old (set new n y)
  partly_next n old new d y p h r =
      let e : suc n ≡ n + 1 = omega arith in
      subst (λ m. Partly m old (set new n y)) e (partly_more n old new d y p h r)

  partly_all : (n : ℕ) (old new : List A) → Partly n old new → length new ≤ n → AllZip R old new
  partly_all zero old [] p h = subst (λ l. AllZip R l []) p tt
  partly_all zero old (x ∷ xs) p h = absurd (omega arith)
  partly_all (suc n) [] [] p h = tt
  partly_all (suc n) [] (z ∷ zs) p h = absurd p
  partly_all (suc n) (x ∷ xs) [] p h = absurd p
  partly_all (suc n) (x ∷ xs) (z ∷ zs) p h = (p.0, partly_all n xs zs p.1 (omega arith))

  partly_length : (n : ℕ) (old new : List A) → Partly n old new → length new ≡ length old
  partly_length zero old new p = ap length p
  partly_length (suc n) [] [] p = refl
  partly_length (suc n) [] (z ∷ zs) p = absurd p
  partly_length (suc n) (x ∷ xs) [] p = absurd p
  partly_length (suc n) (x ∷ xs) (z ∷ zs) p = ap suc (partly_length n xs zs p.1)

  drop_all : (l : List A) → drop (length l) l ≡ []
  drop_all [] = refl
  drop_all (x ∷ xs) = drop_all xs

  -- the same, of a vector's items
  pub partly_whole : (n : ℕ) (old new : List A) (len : ℕ) → Partly n old new → length new ≤ n → len ≡ length old → AllZip R old (take len (new ++ drop (length new) old))
  partly_whole n old new len p h is =
      let same = partly_length n old new p in
      let all : new ++ drop (length new) old ≡ new = ap (λ k. new ++ drop k old) same ∙ ap (λ l. new ++ l) (drop_all old) ∙ append-nil new in
      let taken : take len (new ++ drop (length new) old) ≡ new = ap (take len) all ∙ ap (λ k. take k new) (is ∙ sym same) ∙ take-length new in
      subst (AllZip R old) (sym taken) (partly_all n old new p h)
