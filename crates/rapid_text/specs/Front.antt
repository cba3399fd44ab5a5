-- What stands at the front of a line.
use Rattle.std.specs.Prelude.{ℕ, ◌==◌, List, [], ◌∷◌, if◌then◌else◌}
use Rattle.rapid_model.specs.Lines.{space}

-- The line without the spaces in front.
abbrev pub without_spaces : List ℕ → List ℕ
without_spaces [] = []
without_spaces (x ∷ xs) = if x == space then without_spaces xs else x ∷ xs

-- The bytes before the first space.
abbrev pub before_space : List ℕ → List ℕ
before_space [] = []
before_space (x ∷ xs) = if x == space then [] else x ∷ before_space xs

-- The bytes from the first space on.
abbrev pub from_space : List ℕ → List ℕ
from_space [] = []
from_space (x ∷ xs) = if x == space then x ∷ xs else from_space xs
