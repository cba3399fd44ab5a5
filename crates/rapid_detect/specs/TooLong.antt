-- Lines that are too long.
use Rattle.std.proofs.Common.{◌≡◌, ℕ, ◌<◌, ◌++◌, false, List, ◌∷◌, length, nat_le, refl, ap, sym, ◌∙◌, arith}
use Rattle.std.proofs.lemmas.Bool.Decides.{nat_tests}
use Rattle.rapid_model.specs.DetectText.{Run, Unknown, asked, after, printed, text_of_lines}
use Rattle.rapid_model.specs.Limits.{longest_line}

long_unknown : (line : List ℕ) → longest_line < length line → asked line ≡ Unknown
unfolding asked
long_unknown line h = let e : nat_le (length line) longest_line ≡ false = grind (arith, nat_tests) in rw e refl

-- They print the same.
pub long_lines : (s : Run) (line other : List ℕ) (later : List (List ℕ)) → longest_line < length line
    → longest_line < length other → text_of_lines s (line ∷ later) ≡ text_of_lines s (other ∷ later)
long_lines s line other later h k =
    ap (λ a. printed s a ++ text_of_lines (after s a) later) (long_unknown line h ∙ sym (long_unknown other k))
