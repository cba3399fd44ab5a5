-- Texts of one node after another.
use Rattle.std.proofs.Common.{◌≡◌, ℕ, zero, suc, ◌+◌, List, ◌++◌, append_assoc, append-nil, flat_map, ap, sym, ◌∙◌, arith}
use Rattle.std.specs.List.{range_with_len}

-- One more number of a range.
pub range_more : {A : Type 0} (f : ℕ → List A) (a n : ℕ) → flat_map f (range_with_len a (n + 1)) ≡ flat_map f (range_with_len a n) ++ f (a + n)
range_more f a zero = let e : a + 0 ≡ a = omega arith in rw e (append-nil (f a))
range_more f a (suc n) =
    let e : (a + 1) + n ≡ a + suc n = omega arith in
    let d : suc n + 1 ≡ suc (n + 1) = omega arith in
    rw d (ap (λ xs. f a ++ xs) (range_more f (a + 1) n ∙ ap (λ k. flat_map f (range_with_len (a + 1) n) ++ f k) e) ∙ sym (append_assoc (f a) (flat_map f (range_with_len (a + 1) n)) (f (a + suc n))))
