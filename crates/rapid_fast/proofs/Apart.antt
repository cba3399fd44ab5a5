-- One more for a cut, if the first cut's counter stands apart.
use Rattle.std.proofs.Common.{◌≡◌, ℕ, ◌+◌, Bool, true, false, cond, refl, sym, ap, subst, ◌∙◌, Option, Some, None, unwrap_or}
use Rattle.std.specs.Cmp.{eq_by_cmp_equiv}
use Rattle.std.specs.FinMap as map
use Rattle.std.proofs.lemmas.Bool.{false≢true}
use Rattle.rapid_model.specs.Cut.{Cut, cut_cmp, same_cut}
use Rattle.rapid_model.specs.FastRound.{Counts, count_of, one_more}
use Rattle.rapid_model.proofs.Orders.{cuts_total, cuts_exact, same_cut_decides}
use Rattle.rapid_fast.specs.Apart.{with_first, FirstStandsApart}

-- what stands apart is the first counter
pub opened : (f : Option (Cut × ℕ)) (m now : Counts) (e : Cut × ℕ) → f ≡ Some e → with_first f m ≡ now → map.insert m e.0 e.1 ≡ now
opened f m now e is view = ap (λ g. with_first g m) (sym is) ∙ view

-- nothing stands apart, and nothing is counted
pub nothing : (f : Option (Cut × ℕ)) (m now : Counts) → f ≡ None → with_first f m ≡ now → FirstStandsApart f m → (m ≡ map.empty) × (now ≡ map.empty)
nothing f m now is view apart =
    let none : m ≡ map.empty = subst (λ g. FirstStandsApart g m) is apart in
    (none, sym view ∙ ap (λ g. with_first g m) is ∙ none)

module _ (m : Counts) (c v : Cut) (n : ℕ) where
  pub count_of_first : c ≡ v → count_of (map.insert m c n) v ≡ n
  count_of_first same =
      ap (λ o. unwrap_or o 0)
      (map.get-insert cuts_total m c n v ∙ ap (λ b. cond b (Some n) (map.get m v)) ((same_cut_decides v c).1 (sym same)))

  pub count_of_other : same_cut c v ≡ false → count_of (map.insert m c n) v ≡ count_of m v
  count_of_other other =
      ap (λ o. unwrap_or o 0)
      (map.get-insert cuts_total m c n v ∙ ap (λ b. cond b (Some n) (map.get m v)) ((eq_by_cmp_equiv cuts_total).symm v c ∙ other))

  pub raised_first : c ≡ v → map.insert m c (n + 1) ≡ one_more (map.insert m c n) v
  raised_first same = map.same_map cuts_total cuts_exact _ _ at
    where
      over : (b : Bool) (k : ℕ) → k ≡ n → cond b (Some (n + 1)) (map.get m v) ≡ cond b (Some (k + 1)) (cond b (Some n) (map.get m v))
      over true k e = ap (λ (i : ℕ). Some (i + 1)) (sym e)
      over false k e = refl

      at : (q : Cut) → map.get (map.insert m c (n + 1)) q ≡ map.get (one_more (map.insert m c n) v) q
      at q =
          map.get-insert cuts_total m c (n + 1) q ∙ raised (same_cut q c) (map.get m q)
          ∙ sym
          (map.get-insert cuts_total (map.insert m c n) v (count_of (map.insert m c n) v + 1) q
          ∙ ap (λ o. cond (same_cut q v) (Some (count_of (map.insert m c n) v + 1)) o) (map.get-insert cuts_total m c n q)
          ∙ ap (λ u. cond (same_cut q u) (Some (count_of (map.insert m c n) v + 1)) (cond (same_cut q c) (Some n) (map.get m q))) (sym same))
        where
          raised : (b : Bool) (o : Option ℕ) → cond b (Some (n + 1)) o ≡ cond b (Some (count_of (map.insert m c n) v + 1)) (cond b (Some n) o)
          raised true o = ap (λ (i : ℕ). Some (i + 1)) (sym (count_of_first same))
          raised false o = refl

  pub raised_other : same_cut c v ≡ false → map.insert (one_more m v) c n ≡ one_more (map.insert m c n) v
  raised_other other = map.same_map cuts_total cuts_exact _ _ at
    where
      swapped : (a b : Bool) (k l : ℕ) (o : Option ℕ) → (a ≡ true → b ≡ true → ⊥) → k ≡ l
          → cond a (Some n) (cond b (Some (k + 1)) o) ≡ cond b (Some (l + 1)) (cond a (Some n) o)
      swapped true true k l o not e = absurd (not refl refl)
      swapped true false k l o not e = refl
      swapped false true k l o not e = ap (λ (i : ℕ). Some (i + 1)) e
      swapped false false k l o not e = refl

      apart : (q : Cut) → same_cut q c ≡ true → same_cut q v ≡ true → ⊥
      apart q a b =
          let here : c ≡ v = sym ((same_cut_decides q c).0 a) ∙ (same_cut_decides q v).0 b in
          false≢true (sym other ∙ (same_cut_decides c v).1 here)

      at : (q : Cut) → map.get (map.insert (one_more m v) c n) q ≡ map.get (one_more (map.insert m c n) v) q
      at q =
          map.get-insert cuts_total (one_more m v) c n q
          ∙ ap (λ o. cond (same_cut q c) (Some n) o) (map.get-insert cuts_total m v (count_of m v + 1) q)
          ∙ swapped (same_cut q c) (same_cut q v) (count_of m v) (count_of (map.insert m c n) v) (map.get m q) (apart q) (sym (count_of_other other))
          ∙ sym
          (map.get-insert cuts_total (map.insert m c n) v (count_of (map.insert m c n) v + 1) q
          ∙ ap (λ o. cond (same_cut q v) (Some (count_of (map.insert m c n) v + 1)) o) (map.get-insert cuts_total m c n q))

-- the first vote
pub count_of_none : (m : Counts) (v : Cut) → m ≡ map.empty → 0 ≡ count_of m v
count_of_none m v none = sym (ap (λ l. count_of l v) none ∙ ap (λ o. unwrap_or o 0) (map.get-empty cut_cmp v))

pub begun_first : (m now : Counts) (w v : Cut) → m ≡ map.empty → now ≡ map.empty → w ≡ v → map.insert m w 1 ≡ one_more now v
begun_first m now w v none new copy =
    (λ i. map.insert (none i) (copy i) 1)
    ∙ ap (λ (k : ℕ). map.insert map.empty v (k + 1)) (count_of_none now v new)
    ∙ ap (λ l. map.insert l v (count_of now v + 1)) (sym new)

-- the same in the words of a call: the counters f and m, and the value that they stand for
module _ (f : Option (Cut × ℕ)) (m now : Counts) (e : Cut × ℕ) (v : Cut) (is : f ≡ Some e) (view : with_first f m ≡ now) where
  stands : map.insert m e.0 e.1 ≡ now
  stands = opened f m now e is view

  pub count_here : same_cut e.0 v ≡ true → e.1 ≡ count_of now v
  count_here same = sym (count_of_first m e.0 v e.1 ((same_cut_decides e.0 v).0 same)) ∙ ap (λ l. count_of l v) stands

  pub count_there : same_cut e.0 v ≡ false → count_of m v ≡ count_of now v
  count_there other = sym (count_of_other m e.0 v e.1 other) ∙ ap (λ l. count_of l v) stands

  pub raised_here : same_cut e.0 v ≡ true → map.insert m e.0 (e.1 + 1) ≡ one_more now v
  raised_here same = raised_first m e.0 v e.1 ((same_cut_decides e.0 v).0 same) ∙ ap (λ l. one_more l v) stands

  pub raised_there : same_cut e.0 v ≡ false → (l : Counts) → l ≡ one_more m v → map.insert l e.0 e.1 ≡ one_more now v
  raised_there other l raised = ap (λ k. map.insert k e.0 e.1) raised ∙ raised_other m e.0 v e.1 other ∙ ap (λ k. one_more k v) stands
