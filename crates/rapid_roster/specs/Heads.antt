-- What processes are looked for by: their heads.
use Rattle.std.specs.Prelude.{◌≡◌, ℕ, List, [], ◌∷◌, ◌++◌, take, drop, IsTrue}
use Rattle.std.proofs.Common.{ap}
use Rattle.rapid_model.specs.Process.{Process, identifier, endpoint, same_bytes}
use Rattle.rapid_model.proofs.Orders.{same_bytes_decides}

-- The identifier and the endpoint of a process.
abbrev pub head_of : Process → List ℕ
head_of p = identifier p ++ endpoint p

-- Equal ones are hashed alike.
pub same_input : (x y : List ℕ) → IsTrue (same_bytes x y) → ◌≡◌ {A = List (List ℕ)} (take 16 x ∷ drop 16 x ∷ []) (take 16 y ∷ drop 16 y ∷ [])
same_input x y h = ap (λ (z : List ℕ). let l : List (List ℕ) = take 16 z ∷ drop 16 z ∷ [] in l) ((same_bytes_decides x y).0 h)
