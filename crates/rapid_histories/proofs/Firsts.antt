-- What positions said first, as more is said.
use Rattle.std.proofs.Common.{◌≡◌, ℕ, zero, suc, ◌+◌, ◌≤◌, ◌<◌, Bool, true, false, cond, ◌&&◌, ◌||◌, ◌==◌, List, [], ◌∷◌, ◌++◌, refl, sym, ap, ◌∙◌, inl, inr, arith, Some, None, eqb-true, eq-eqb, ne_eqb}
use Rattle.std.specs.List.{list_any, find, range_with_len}
use Rattle.std.specs.Option.{option_map}
use Rattle.std.proofs.lemmas.Bool.{cases_eq, true≢false}
use Rattle.rapid_model.specs.Quorum.{size}
use Rattle.rapid_agreement.specs.Positions.{positions}
use Rattle.rapid_agreement.proofs.Sets.{size-cons}
use Rattle.rapid_histories.specs.Firsts.{passes, first, firsts}

-- the position has spoken
abbrev pub spoke : {X : Type 0} → List (ℕ × X) → ℕ → Bool
spoke said p = list_any (λ x. x.0 == p) said

module _ {X : Type 0} where
  pub first_push : (said : List (ℕ × X)) (x : ℕ × X) (q : ℕ) → first (said ++ x ∷ []) q ≡ cond (spoke said q) (first said q) (cond (x.0 == q) (Some x.1) None)
  first_push [] x q = by (x.0 == q)
    where
      by : (b : Bool) → option_map (λ (y : ℕ × X). y.1) (cond b (Some x) None) ≡ cond b (Some x.1) None
      by true = refl
      by false = refl
  first_push (y ∷ ys) x q = by (y.0 == q) (first_push ys x q)
    where
      by : (b : Bool) → first (ys ++ x ∷ []) q ≡ cond (spoke ys q) (first ys q) (cond (x.0 == q) (Some x.1) None)
          → option_map (λ (z : ℕ × X). z.1) (cond b (Some y) (find (λ z. z.0 == q) (ys ++ x ∷ [])))
          ≡ cond (b || spoke ys q) (option_map (λ (z : ℕ × X). z.1) (cond b (Some y) (find (λ z. z.0 == q) ys))) (cond (x.0 == q) (Some x.1) None)
      by true rest = refl
      by false rest = rest

  pub silent : (said : List (ℕ × X)) (q : ℕ) → spoke said q ≡ false → first said q ≡ None
  silent [] q h = refl
  silent (y ∷ ys) q h = by (y.0 == q) (silent ys q) h
    where
      by : (b : Bool) → (spoke ys q ≡ false → first ys q ≡ None) → (b || spoke ys q) ≡ false → option_map (λ (z : ℕ × X). z.1) (cond b (Some y) (find (λ z. z.0 == q) ys)) ≡ None
      by true rest h = absurd (true≢false h)
      by false rest h = rest h

  pub spoke_push : (said : List (ℕ × X)) (x : ℕ × X) (q : ℕ) → spoke (said ++ x ∷ []) q ≡ (spoke said q || (x.0 == q))
  spoke_push [] x q = by (x.0 == q)
    where
      by : (b : Bool) → (b || false) ≡ b
      by true = refl
      by false = refl
  spoke_push (y ∷ ys) x q = ap (λ b. (y.0 == q) || b) (spoke_push ys x q) ∙ by (y.0 == q) (spoke ys q) (x.0 == q)
    where
      by : (a b c : Bool) → (a || (b || c)) ≡ ((a || b) || c)
      by true b c = refl
      by false b c = refl

  module _ (test : X → Bool) where
    pub firsts_none : (said : List (ℕ × X)) (q : ℕ) → spoke said q ≡ false → firsts test said q ≡ false
    firsts_none said q h = ap (passes test) (silent said q h)

    -- who spoke says nothing new
    pub firsts_known : (said : List (ℕ × X)) (x : ℕ × X) → spoke said x.0 ≡ true → (q : ℕ) → firsts test (said ++ x ∷ []) q ≡ firsts test said q
    firsts_known said x known q = ap (passes test) (first_push said x q) ∙ by (spoke said q) refl (x.0 == q) refl
      where
        by : (b : Bool) → spoke said q ≡ b → (c : Bool) → (x.0 == q) ≡ c → passes test (cond b (first said q) (cond c (Some x.1) None)) ≡ firsts test said q
        by true e c f = refl
        by false e true f = absurd (true≢false (sym known ∙ ap (spoke said) (eqb-true x.0 q f) ∙ e))
        by false e false f = sym (firsts_none said q e)

    -- who had not spoken counts
    pub firsts_new : (said : List (ℕ × X)) (x : ℕ × X) → spoke said x.0 ≡ false → (q : ℕ) → firsts test (said ++ x ∷ []) q ≡ (firsts test said q || ((x.0 == q) && test x.1))
    firsts_new said x new q = ap (passes test) (first_push said x q) ∙ by (spoke said q) refl (x.0 == q) refl
      where
        no_more : (b : Bool) → b ≡ (b || false)
        no_more true = refl
        no_more false = refl

        by : (b : Bool) → spoke said q ≡ b → (c : Bool) → (x.0 == q) ≡ c → passes test (cond b (first said q) (cond c (Some x.1) None)) ≡ (firsts test said q || (c && test x.1))
        by true e true f = absurd (true≢false (sym e ∙ ap (spoke said) (sym (eqb-true x.0 q f)) ∙ new))
        by true e false f = no_more (firsts test said q)
        by false e true f = ap (λ b. b || test x.1) (sym (firsts_none said q e))
        by false e false f = ap (λ b. b || false) (sym (firsts_none said q e))

    -- what was said first stays so
    pub firsts_stay : (said later : List (ℕ × X)) (q : ℕ) → firsts test said q ≡ true → firsts test (said ++ later) q ≡ true
    firsts_stay [] later q h = absurd (true≢false (sym h))
    firsts_stay (y ∷ ys) later q h = by (y.0 == q) (firsts_stay ys later q) h
      where
        by : (b : Bool) → (firsts test ys q ≡ true → firsts test (ys ++ later) q ≡ true)
            → passes test (option_map (λ (z : ℕ × X). z.1) (cond b (Some y) (find (λ z. z.0 == q) ys))) ≡ true
            → passes test (option_map (λ (z : ℕ × X). z.1) (cond b (Some y) (find (λ z. z.0 == q) (ys ++ later)))) ≡ true
        by true rest h = h
        by false rest h = rest h

-- ---- sizes

pub size_same : {X : Type 0} (members : List X) (s t : X → Bool) → ((x : X) → s x ≡ t x) → size members s ≡ size members t
size_same [] s t h = refl
size_same (x ∷ xs) s t h =
    let here : ◌≡◌ {A = ℕ} (cond (s x) 1 0) (cond (t x) 1 0) = ap (λ b. cond b 1 0) (h x) in
    omega (arith, size-cons x xs s, size-cons x xs t, size_same xs s t h, here)

pub size_none : {X : Type 0} (members : List X) (s : X → Bool) → ((x : X) → s x ≡ false) → size members s ≡ 0
size_none [] s h = refl
size_none (x ∷ xs) s h =
    let here : ◌≡◌ {A = ℕ} (cond (s x) 1 0) 0 = ap (λ b. cond b 1 0) (h x) in
    omega (arith, size-cons x xs s, size_none xs s h, here)

module _ (s t : ℕ → Bool) (k : ℕ) (b : Bool) (new : s k ≡ false) (more : (q : ℕ) → t q ≡ (s q || ((k == q) && b))) where
  elsewhere : (q : ℕ) → (k ≡ q → ⊥) → t q ≡ s q
  elsewhere q other = more q ∙ ap (λ c. s q || (c && b)) (ne_eqb k q other) ∙ no_more (s q)
    where
      no_more : (c : Bool) → (c || false) ≡ c
      no_more true = refl
      no_more false = refl

  here_is : t k ≡ b
  here_is = more k ∙ ap (λ c. c || ((k == k) && b)) new ∙ ap (λ c. c && b) (eq-eqb k k refl)

  size_past : (a n : ℕ) → k < a → size (range_with_len a n) t ≡ size (range_with_len a n) s
  size_past a zero l = refl
  size_past a (suc n) l =
      let here : ◌≡◌ {A = ℕ} (cond (t a) 1 0) (cond (s a) 1 0) = ap (λ c. cond c 1 0) (elsewhere a (λ e. omega arith)) in
      omega (arith, size-cons a (range_with_len (a + 1) n) s, size-cons a (range_with_len (a + 1) n) t, size_past (a + 1) n (omega arith), here)

  size_within : (a n : ℕ) → a ≤ k → k < a + n → size (range_with_len a n) t ≡ size (range_with_len a n) s + cond b 1 0
  size_within a zero l h = absurd (omega arith)
  size_within a (suc n) l h =
      elim (cases_eq k a) [
        | inl same ↦
            let was : ◌≡◌ {A = ℕ} (cond (s a) 1 0) 0 = ap (λ c. cond c 1 0) (ap s (sym same) ∙ new) in
            let is : ◌≡◌ {A = ℕ} (cond (t a) 1 0) (cond b 1 0) = ap (λ c. cond c 1 0) (ap t (sym same) ∙ here_is) in
            omega (arith, size-cons a (range_with_len (a + 1) n) s, size-cons a (range_with_len (a + 1) n) t, size_past (a + 1) n (omega arith), was, is)
        | inr other ↦
            let here : ◌≡◌ {A = ℕ} (cond (t a) 1 0) (cond (s a) 1 0) = ap (λ c. cond c 1 0) (elsewhere a other) in
            omega (arith, size-cons a (range_with_len (a + 1) n) s, size-cons a (range_with_len (a + 1) n) t, size_within (a + 1) n (omega (arith, other)) (omega arith), here)
      ]

  -- one position more, if b
  pub size_more : (n : ℕ) → k < n → size (positions n) t ≡ size (positions n) s + cond b 1 0
  size_more n h = size_within 0 n (omega arith) (omega arith)

-- the sizes after one more call
module _ {X : Type 0} (test : X → Bool) (n : ℕ) (said : List (ℕ × X)) (x : ℕ × X) where
  pub size_known : spoke said x.0 ≡ true → size (positions n) (firsts test (said ++ x ∷ [])) ≡ size (positions n) (firsts test said)
  size_known known = size_same (positions n) (firsts test (said ++ x ∷ [])) (firsts test said) (firsts_known test said x known)

  pub size_new : spoke said x.0 ≡ false → x.0 < n → size (positions n) (firsts test (said ++ x ∷ [])) ≡ size (positions n) (firsts test said) + cond (test x.1) 1 0
  size_new new h =
      size_more (firsts test said) (firsts test (said ++ x ∷ [])) x.0 (test x.1) (firsts_none test said x.0 new) (firsts_new test said x new) n h
