-- Lines that are too long.
use Rattle.std.proofs.Common.{◌≡◌, ℕ, ◌<◌, false, List, ◌∷◌, length, nat_le, refl, sym, ◌∙◌, subst, arith}
use Rattle.std.proofs.lemmas.Bool.Decides.{nat_tests}
use Rattle.rapid_model.specs.SimText.{SimState, Asked, Unknown, asked}
use Rattle.rapid_model.specs.Limits.{longest_line}
use Rattle.rapid_sim.specs.Wants.{ThenPrints, LinesPrint}

long_unknown : (line : List ℕ) → longest_line < length line → asked line ≡ Unknown
unfolding asked
long_unknown line h = let e : nat_le (length line) longest_line ≡ false = grind (arith, nat_tests) in rw e refl

-- They print the same.
pub long_lines : (s : SimState) (line other : List ℕ) (later : List (List ℕ)) (text : List ℕ) (n : ℕ)
    → longest_line < length line → longest_line < length other → LinesPrint s (line ∷ later) text n
    → LinesPrint s (other ∷ later) text n
unfolding LinesPrint
long_lines s line other later text n h k p =
    subst (λ (a : Asked). ThenPrints s a text n (λ next rest l. LinesPrint next later rest l)) (long_unknown line h ∙ sym (long_unknown other k)) p
