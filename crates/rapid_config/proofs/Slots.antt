-- Endpoints that were seen, and the slots that they took.
use Rattle.std.proofs.Common.{◌≡◌, ℕ, ◌<◌, Bool, true, false, ◌||◌, List, [], ◌∷◌, ◌++◌, length, get_or, set, inl, inr, refl, sym, ap, subst, ◌∙◌}
use Rattle.std.specs.List.{All, list_any}
use Rattle.std.proofs.lemmas.Bool.{cases_eq, true≢false}
use Rattle.std.proofs.lemmas.List.{length-set, get_or-set_same, get_or-set_other}
use Rattle.std.proofs.lemmas.List.Elements.{All-weaker, All-push}
use Rattle.std.proofs.lemmas.List.Folds.{list_any_none}
use Rattle.rapid_model.specs.Process.{same_bytes}
use Rattle.rapid_model.proofs.Orders.{same_bytes_decides}
use Rattle.rapid_config.specs.Endpoints.{slot_of, slots}
use Rattle.rapid_config.proofs.Differing.{same_flips}

-- the slot of this endpoint is taken
abbrev pub IsTaken : List Bool → List ℕ → Type 0
IsTaken t e = get_or t (slot_of e) false ≡ true

-- an endpoint whose slot is free was not seen
pub free_is_new : (t : List Bool) (es : List (List ℕ)) (e : List ℕ) → All (IsTaken t) es → get_or t (slot_of e) false ≡ false → list_any (same_bytes e) es ≡ false
free_is_new t es e h free = list_any_none (same_bytes e) es (λ k d l. apart (get_or es k d) (same_bytes e (get_or es k d)) refl (h k d l))
  where
    apart : (x : List ℕ) (b : Bool) → same_bytes e x ≡ b → IsTaken t x → b ≡ false
    apart x false s taken = refl
    apart x true s taken =
        let both : true ≡ false = sym taken ∙ ap (λ (y : List ℕ). get_or t (slot_of y) false) (sym ((same_bytes_decides e x).0 s)) ∙ free in
        absurd (true≢false both)

-- a slot that was read as free
pub read_free : (t : List Bool) (n : ℕ) (e : List ℕ) (b : Bool) → b ≡ get_or t n b → b ≡ false → n ≡ slot_of e → get_or t (slot_of e) false ≡ false
read_free t n e b h f q = sym (subst (λ (m : ℕ). false ≡ get_or t m false) q (subst (λ (x : Bool). x ≡ get_or t n x) f h))

-- those that were seen, looked through
any_flips : (e : List ℕ) (es : List (List ℕ)) → list_any (λ y. same_bytes y e) es ≡ list_any (same_bytes e) es
any_flips e [] = refl
any_flips e (x ∷ xs) = λ i. same_flips x e i || any_flips e xs i

pub found : (e : List ℕ) (xs es : List (List ℕ)) (r : Bool) → r ≡ list_any (λ y. same_bytes y e) xs → xs ≡ es → list_any (same_bytes e) es ≡ r
found e xs es r h p = sym (h ∙ ap (λ (ys : List (List ℕ)). list_any (λ y. same_bytes y e) ys) p ∙ any_flips e es)

-- the slots after one endpoint more
taken_more : (t : List Bool) (es : List (List ℕ)) (e : List ℕ) → slot_of e < length t → All (IsTaken t) es → All (IsTaken (set t (slot_of e) true)) (es ++ e ∷ [])
taken_more t es e l h =
    All-push (IsTaken (set t (slot_of e) true)) es e (All-weaker (IsTaken t) (IsTaken (set t (slot_of e) true)) kept es h) (get_or-set_same t (slot_of e) true false l)
  where
    kept : (x : List ℕ) → IsTaken t x → IsTaken (set t (slot_of e) true) x
    kept x p =
        elim (cases_eq (slot_of x) (slot_of e)) [
          | inl same ↦ ap (λ (n : ℕ). get_or (set t (slot_of e) true) n false) same ∙ get_or-set_same t (slot_of e) true false l
          | inr other ↦ get_or-set_other t (slot_of e) (slot_of x) true false other ∙ p
        ]

pub slots_more : (t : List Bool) (es fs : List (List ℕ)) (e : List ℕ) (n : ℕ) → n ≡ slot_of e → n < slots → length t ≡ slots → All (IsTaken t) es → fs ≡ es ++ e ∷ []
    → (length (set t n true) ≡ slots) × All (IsTaken (set t n true)) fs
slots_more t es fs e n q l len h p =
    let within : slot_of e < length t = subst (λ (m : ℕ). m < length t) q (subst (λ (k : ℕ). n < k) (sym len) l) in (
      length-set t n true ∙ len,
      subst (λ (xs : List (List ℕ)). All (IsTaken (set t n true)) xs) (sym p)
          (subst (λ (m : ℕ). All (IsTaken (set t m true)) (es ++ e ∷ [])) (sym q) (taken_more t es e within h)),
    )
