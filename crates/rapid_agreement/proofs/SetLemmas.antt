-- Any set with one more element.
use Rattle.std.proofs.Common.{◌≡◌, ◌+◌, ◌⊎◌, inl, inr, Bool, true, false, cond, ◌&&◌, ◌||◌, refl, sym, ap, ◌∙◌, arith}
use Rattle.std.specs.declared.cmp.Ordering.{Ordering}
use Rattle.std.specs.declared.cmp.Ordering.TheVariants.{Equal}
use Rattle.std.specs.Ordering.{eq_by_cmp}
use Rattle.std.specs.Cmp.{IsTotalOrder}
use Rattle.std.specs.FinSet as set
use Rattle.rapid_model.proofs.Orders.{tie_decides}

module _ {K : Type 0} {R : K → K → Ordering} (o : IsTotalOrder R) (exact : set.IsAntisymmetric R) (s : set.FinSet R) (k : K) where
  -- what is in it is the new one, or was in it
  pub of_insert : (q : K) → set.contains (set.insert s k) q ≡ true → (q ≡ k) ⊎ (set.contains s q ≡ true)
  of_insert q h = by (eq_by_cmp R q k) refl (sym (set.contains-insert o s k q) ∙ h)
    where
      by : (b : Bool) → eq_by_cmp R q k ≡ b → (b || set.contains s q) ≡ true → (q ≡ k) ⊎ (set.contains s q ≡ true)
      by true e g = inl ((tie_decides o exact q k).0 e)
      by false e g = inr g

  pub new_in : set.contains (set.insert s k) k ≡ true
  new_in = set.contains-insert o s k k ∙ ap (λ b. b || set.contains s k) ((tie_decides o exact k k).1 refl)

  pub old_in : (q : K) → set.contains s q ≡ true → set.contains (set.insert s k) q ≡ true
  old_in q h = set.contains-insert o s k q ∙ by (eq_by_cmp R q k) (set.contains s q) h
    where
      by : (a b : Bool) → b ≡ true → (a || b) ≡ true
      by true b e = refl
      by false b e = e

  pub insert_known : set.contains s k ≡ true → set.insert s k ≡ s
  insert_known known = set.same_set o exact _ _ (λ q. set.contains-insert o s k q ∙ by q (eq_by_cmp R q k) refl)
    where
      by : (q : K) (b : Bool) → eq_by_cmp R q k ≡ b → (b || set.contains s q) ≡ set.contains s q
      by q true h = sym (ap (set.contains s) ((tie_decides o exact q k).0 h) ∙ known)
      by q false h = refl

  module _ (t : K → Bool) where
    alike : (q x : K) → R q x ≡ Equal → t x ≡ t q
    alike q x e = ap t (sym (exact q x e))

    kept_in : (q : K) → set.contains (set.retain (set.insert s k) t) q ≡ ((eq_by_cmp R q k || set.contains s q) && t q)
    kept_in q = set.contains-retain (set.insert s k) t q (alike q) ∙ ap (λ b. b && t q) (set.contains-insert o s k q)

    retain-passed : t k ≡ true → set.retain (set.insert s k) t ≡ set.insert (set.retain s t) k
    retain-passed pass = set.same_set o exact _ _ (λ q. kept_in q ∙ by q (eq_by_cmp R q k) refl ∙ sym (set.contains-insert o (set.retain s t) k q ∙ ap (λ b. eq_by_cmp R q k || b) (set.contains-retain s t q (alike q))))
      where
        by : (q : K) (b : Bool) → eq_by_cmp R q k ≡ b → ((b || set.contains s q) && t q) ≡ (b || (set.contains s q && t q))
        by q true h = ap t ((tie_decides o exact q k).0 h) ∙ pass
        by q false h = refl

    retain-failed : t k ≡ false → set.retain (set.insert s k) t ≡ set.retain s t
    retain-failed fails = set.same_set o exact _ _ (λ q. kept_in q ∙ by q (eq_by_cmp R q k) refl ∙ sym (set.contains-retain s t q (alike q)))
      where
        and-false : (b : Bool) → (b && false) ≡ false
        and-false true = refl
        and-false false = refl

        by : (q : K) (b : Bool) → eq_by_cmp R q k ≡ b → ((b || set.contains s q) && t q) ≡ (set.contains s q && t q)
        by q true h =
            let no : t q ≡ false = ap t ((tie_decides o exact q k).0 h) ∙ fails in
            no ∙ sym (ap (λ b. set.contains s q && b) no ∙ and-false (set.contains s q))
        by q false h = refl

    -- how many pass
    pub len-passed : t k ≡ true → set.contains s k ≡ false → set.len (set.retain (set.insert s k) t) ≡ set.len (set.retain s t) + 1
    len-passed pass new =
        ap set.len (retain-passed pass) ∙ set.len-insert o (set.retain s t) k
        ∙ ap (λ b. cond b (set.len (set.retain s t)) (set.len (set.retain s t) + 1)) (set.contains-retain s t k (alike k) ∙ ap (λ b. b && t k) new)

    pub len-failed : t k ≡ false → set.len (set.retain (set.insert s k) t) ≡ set.len (set.retain s t)
    len-failed fails = ap set.len (retain-failed fails)

    pub len_new_kept : set.contains s k ≡ false → set.len (set.retain (set.insert s k) t) ≡ cond (t k) 1 0 + set.len (set.retain s t)
    len_new_kept new = by (t k) refl
      where
        by : (b : Bool) → t k ≡ b → set.len (set.retain (set.insert s k) t) ≡ cond b 1 0 + set.len (set.retain s t)
        by true pass = let more = len-passed pass new in omega (arith, more)
        by false fails = let same = len-failed fails in omega (arith, same)
