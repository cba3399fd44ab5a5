-- Thirty-two bytes as four numbers.
use Rattle.std.proofs.Common.{◌≡◌, ◌∙◌, ◌+◌, ◌<◌, ◌≤◌, ℕ, List, [], ◌∷◌, ◌++◌, length, get_or, drop, refl, sym, ap, subst, arith, length-take, length-drop, append-nil}
use Rattle.std.specs.Prelude.{slice_range, ◌-◌}
use mathlib.Core.Logic.{dite}
use native.Mathlib.Decide.{dec_lt}
use Rattle.std.proofs.lemmas.List.{get_or-take, get_or-drop}
use Rattle.std.proofs.lemmas.List.Folds.{drop_split}
use Rattle.std.proofs.Math.ListN.{get_or-eq_default}

pub range_length : (xs : List ℕ) (at : ℕ) → at + 8 ≤ length xs → length (slice_range xs at (at + 8)) ≡ 8
range_length xs at within = omega (arith, length-take (at + 8 - at) (drop at xs), length-drop at xs)

pub range_fits : (xs : List ℕ) (at : ℕ) → at + 8 ≤ length xs → ((i : ℕ) → get_or xs i 0 < 256) → (i : ℕ) → get_or (slice_range xs at (at + 8)) i 0 < 256
range_fits xs at within fits i = dite (dec_lt i 8)
    (λ (near : i < 8). subst (λ n. n < 256) (sym (get_or-take (at + 8 - at) (drop at xs) i 0 (omega arith) ∙ get_or-drop at xs i 0)) (fits (at + i)))
    (λ far. let long = range_length xs at within in subst (λ n. n < 256) (sym (get_or-eq_default (slice_range xs at (at + 8)) 0 (omega arith))) (omega arith))

none_left : (xs : List ℕ) → length xs ≡ 0 → xs ≡ []
none_left [] e = refl
none_left (x ∷ xs) e = absurd (omega arith)

pub four_parts : (xs : List ℕ) → length xs ≡ 32 → xs ≡ slice_range xs 0 8 ++ (slice_range xs 8 16 ++ (slice_range xs 16 24 ++ slice_range xs 24 32))
four_parts xs long =
    let last : drop 32 xs ≡ [] = none_left (drop 32 xs) (omega (arith, length-drop 32 xs)) in
    drop_split xs 0 8 (omega arith)
    ∙ ap (λ l. slice_range xs 0 8 ++ l) (drop_split xs 8 16 (omega arith)
    ∙ ap (λ l. slice_range xs 8 16 ++ l) (drop_split xs 16 24 (omega arith)
    ∙ ap (λ l. slice_range xs 16 24 ++ l) (drop_split xs 24 32 (omega arith) ∙ ap (λ l. slice_range xs 24 32 ++ l) last ∙ append-nil _)))
