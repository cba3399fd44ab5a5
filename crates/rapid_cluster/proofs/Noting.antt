-- One more stamp was seen.
use Rattle.std.proofs.Common.{◌≡◌, ℕ, Bool, true, false, not, cond, ◌&&◌, ◌||◌, ◌==◌, List, [], ◌∷◌, ◌++◌, refl, ap, sym, ◌∙◌, subst, arith}
use Rattle.std.proofs.lemmas.Bool.Decides.{nat_tests}
use Rattle.std.proofs.lemmas.Cmp.{nat_list_cmp_total, eq_by_cmp_equiv}
use Rattle.std.proofs.lemmas.List.Folds.{list_any-append}
use Rattle.std.specs.List.{list_any}
use Rattle.rapid_model.proofs.Orders.{same_bytes_decides}
use Rattle.rapid_model.specs.Process.{same_bytes}
use Rattle.rapid_model.specs.Configuration.{Stamp}
use Rattle.rapid_cluster.specs.ClusterText.{differ, is_split}
use Rattle.rapid_cluster.specs.Noting.{Notes}

-- ---- lists

any_or : {X : Type 0} (f g : X → Bool) (xs : List X) → list_any (λ x. f x || g x) xs ≡ (list_any f xs || list_any g xs)
any_or f g [] = refl
any_or f g (x ∷ xs) = rw (any_or f g xs) (swaps (f x) (g x) (list_any f xs) (list_any g xs))
  where
    swaps : (a b c d : Bool) → ((a || b) || (c || d)) ≡ ((a || c) || (b || d))
    swaps true b c d = refl
    swaps false true true d = refl
    swaps false true false d = refl
    swaps false false c d = refl

any_same : {X : Type 0} (f g : X → Bool) (xs : List X) → ((x : X) → f x ≡ g x) → list_any f xs ≡ list_any g xs
any_same f g [] h = refl
any_same f g (x ∷ xs) h = rw (h x, any_same f g xs h) refl

or_false : (b : Bool) → (b || false) ≡ b
or_false true = refl
or_false false = refl

-- ---- stamps

-- The stamps have one height and one identifier.
abbrev pub same : Stamp → Stamp → Bool
same a b = (a.height == b.height) && same_bytes a.id b.id

differ_turned : (a b : Stamp) → differ a b ≡ differ b a
differ_turned a b =
    let heights : (a.height == b.height) ≡ (b.height == a.height) = grind (arith, nat_tests) in
    rw (heights, (eq_by_cmp_equiv nat_list_cmp_total).symm a.id b.id) refl

not_from_itself : (a : Stamp) → differ a a ≡ false
not_from_itself a = rw ((same_bytes_decides a.id a.id).1 refl) (by (a.height == a.height))
  where
    by : (b : Bool) → (b && not true) ≡ false
    by true = refl
    by false = refl

differ_alike : (s k t : Stamp) → same s k ≡ true → differ t s ≡ differ t k
differ_alike s k t h = by (s.height == k.height) (same_bytes s.id k.id) refl refl h
  where
    by : (b c : Bool) → (s.height == k.height) ≡ b → same_bytes s.id k.id ≡ c → (b && c) ≡ true → differ t s ≡ differ t k
    by true true e f g =
        let heights : s.height ≡ k.height = grind (arith, nat_tests) in
        rw (heights, (same_bytes_decides s.id k.id).0 f) refl
    by true false e f g = cc
    by false c e f g = cc

-- If an equal stamp is among these, a stamp adds nothing.
covered : (kept : List Stamp) (s t : Stamp) → list_any (same s) kept ≡ true → (list_any (differ t) kept || differ t s) ≡ list_any (differ t) kept
covered [] s t h = cc
covered (k ∷ ks) s t h = by (same s k) refl h (covered ks s t)
  where
    twice : (d r : Bool) → ((d || r) || d) ≡ (d || r)
    twice true r = refl
    twice false true = refl
    twice false false = refl

    later : (d r x : Bool) → (r || x) ≡ r → ((d || r) || x) ≡ (d || r)
    later true r x e = refl
    later false r x e = e

    by : (b : Bool) → same s k ≡ b → (b || list_any (same s) ks) ≡ true → (list_any (same s) ks ≡ true → (list_any (differ t) ks || differ t s) ≡ list_any (differ t) ks) → ((differ t k || list_any (differ t) ks) || differ t s) ≡ (differ t k || list_any (differ t) ks)
    by true e g f = rw (differ_alike s k t e) (twice (differ t k) (list_any (differ t) ks))
    by false e g f = later (differ t k) (list_any (differ t) ks) (differ t s) (f g)

any_more : (f : Stamp → Bool) (xs : List Stamp) (s : Stamp) → list_any f (xs ++ s ∷ []) ≡ (list_any f xs || f s)
any_more f xs s = list_any-append f xs (s ∷ []) ∙ ap (λ b. list_any f xs || b) (or_false (f s))

-- Two of these and one more differ exactly if two of these do, or the one differs from one of them.
split_more : (xs : List Stamp) (s : Stamp) → is_split (xs ++ s ∷ []) ≡ (is_split xs || list_any (differ s) xs)
split_more xs s =
    any_more (λ a. list_any (differ a) (xs ++ s ∷ [])) xs s
    ∙ ap (λ b. b || list_any (differ s) (xs ++ s ∷ []))
    (any_same (λ a. list_any (differ a) (xs ++ s ∷ [])) (λ a. list_any (differ a) xs || differ a s) xs (λ a. any_more (differ a) xs s)
    ∙ any_or (λ a. list_any (differ a) xs) (λ a. differ a s) xs
    ∙ ap (λ b. is_split xs || b) (any_same (λ a. differ a s) (differ s) xs (λ a. differ_turned a s)))
    ∙ ap (λ b. (is_split xs || list_any (differ s) xs) || b) (any_more (differ s) xs s ∙ rw (not_from_itself s) (or_false (list_any (differ s) xs)))
    ∙ twice (is_split xs) (list_any (differ s) xs)
  where
    twice : (a b : Bool) → ((a || b) || b) ≡ (a || b)
    twice true b = refl
    twice false true = refl
    twice false false = refl

-- ---- what is kept

pub none_noted : Notes [] [] false
none_noted = record { told = refl; tells = λ _ s. refl }

-- Two differ already.
pub noted_split : (seen kept : List Stamp) (split : Bool) (s : Stamp) → split ≡ true → Notes seen kept split → Notes (seen ++ s ∷ []) kept split
noted_split seen kept split s is n =
    record {
      told = let e : is_split seen ≡ true = sym n.told ∙ is in is ∙ sym (split_more seen s ∙ rw e refl);
      tells = λ none. absurd (true≢ (sym is ∙ none));
    }
  where
    true≢ : true ≡ false → ⊥
    true≢ e = cc

-- The stamp differs from one of them.
pub noted_differs : (seen kept : List Stamp) (split : Bool) (s : Stamp) → split ≡ false → list_any (differ s) kept ≡ true → Notes seen kept split → Notes (seen ++ s ∷ []) kept true
noted_differs seen kept split s is differs n =
    record {
      told = let e : list_any (differ s) seen ≡ true = n.tells is s ∙ differs in sym (split_more seen s ∙ rw e (or_true (is_split seen)));
      tells = λ none. absurd (true≢ none);
    }
  where
    true≢ : true ≡ false → ⊥
    true≢ e = cc

    or_true : (b : Bool) → (b || true) ≡ true
    or_true true = refl
    or_true false = refl

still_none : (seen kept : List Stamp) (split : Bool) (s : Stamp) → split ≡ false → list_any (differ s) kept ≡ false → Notes seen kept split → split ≡ is_split (seen ++ s ∷ [])
still_none seen kept split s is none n =
    let e : list_any (differ s) seen ≡ false = n.tells is s ∙ none in
    n.told ∙ sym (split_more seen s ∙ rw e (or_false (is_split seen)))

-- One like the stamp is kept.
pub noted_again : (seen kept : List Stamp) (split : Bool) (s : Stamp) → split ≡ false → list_any (differ s) kept ≡ false → list_any (same s) kept ≡ true → Notes seen kept split → Notes (seen ++ s ∷ []) kept split
noted_again seen kept split s is none again n =
    record {
      told = still_none seen kept split s is none n;
      tells = λ h t. any_more (differ t) seen s ∙ ap (λ b. b || differ t s) (n.tells h t) ∙ covered kept s t again;
    }

-- The stamp is kept.
pub noted_new : (seen kept : List Stamp) (split : Bool) (s : Stamp) → split ≡ false → list_any (differ s) kept ≡ false → Notes seen kept split → Notes (seen ++ s ∷ []) (kept ++ s ∷ []) split
noted_new seen kept split s is none n =
    record {
      told = still_none seen kept split s is none n;
      tells = λ h t. any_more (differ t) seen s ∙ ap (λ b. b || differ t s) (n.tells h t) ∙ sym (any_more (differ t) kept s);
    }
