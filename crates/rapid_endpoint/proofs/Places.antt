-- A list, told place by place.
use Rattle.std.proofs.Common.{◌≡◌, ℕ, zero, suc, List, [], ◌∷◌, length, slice_index_or, refl, ap, arith}

-- What stands at the first places.
abbrev pub told : ℕ → (ℕ → ℕ) → List ℕ
told zero f = []
told (suc n) f = f 0 ∷ told n (λ i. f (suc i))

-- A list is what stands at all its places.
pub all_told : (n : ℕ) (xs : List ℕ) → length xs ≡ n → told n (λ i. slice_index_or xs i 0) ≡ xs
all_told zero [] e = refl
all_told zero (x ∷ xs) e = absurd (omega arith)
all_told (suc n) [] e = absurd (omega arith)
all_told (suc n) (x ∷ xs) e = ap (λ (l : List ℕ). x ∷ l) (all_told n xs (omega arith))
