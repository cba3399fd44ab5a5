-- Two byte strings are the same exactly if they are equal.
use Rattle.std.specs.Prelude.{◌≡◌, ℕ, List, true}
use Rattle.std.proofs.Common.{sym, ◌∙◌}
use Rattle.std.specs.Cmp.Lexicographic.{texts_ties}
use Rattle.std.proofs.lemmas.Slice.Eq.{bytes_eq-Decides}
use Rattle.rapid_model.specs.Process.{same_bytes}

pub equal_when_same : (xs ys : List ℕ) → same_bytes xs ys ≡ true → xs ≡ ys
equal_when_same xs ys h = (bytes_eq-Decides xs ys).0 (texts_ties xs ys ∙ h)

pub same_when_equal : (xs ys : List ℕ) → xs ≡ ys → same_bytes xs ys ≡ true
same_when_equal xs ys h = sym (texts_ties xs ys) ∙ (bytes_eq-Decides xs ys).1 h
