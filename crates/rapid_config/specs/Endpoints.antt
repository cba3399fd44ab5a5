-- The endpoints of some processes, as a set.
use Rattle.std.specs.Prelude.{◌≡◌, ℕ, ◌+◌, ◌*◌, ◌%◌, List, [], ◌∷◌, take, drop, IsTrue}
use Rattle.std.specs.Int.{w16, w32, from_be_bytes}
use Rattle.std.specs.List.{list_any}
use Rattle.std.proofs.Common.{ap}
use Rattle.rapid_model.specs.Process.{Process, endpoint, same_bytes}
use Rattle.rapid_model.proofs.Orders.{same_bytes_decides}

-- A set with these keys has just the endpoints of these processes.
abbrev pub AreEndpointsOf : List Process → List (List ℕ) → Type 0
AreEndpointsOf ps ks = (e : List ℕ) → list_any (same_bytes e) ks ≡ list_any (λ p. same_bytes e (endpoint p)) ps

-- How many slots there are: a prime.
abbrev pub slots : ℕ
slots = 16033

-- The slot of an endpoint: its bytes as a number, modulo how many slots there are.
abbrev pub slot_of : List ℕ → ℕ
slot_of e = (from_be_bytes w32 (take 4 e) * 65536 + from_be_bytes w16 (drop 4 e)) % slots

-- equal endpoints are hashed alike
pub same_input : (x y : List ℕ) → IsTrue (same_bytes x y) → ◌≡◌ {A = List (List ℕ)} (x ∷ []) (y ∷ [])
same_input x y h = ap (λ (z : List ℕ). let l : List (List ℕ) = z ∷ [] in l) ((same_bytes_decides x y).0 h)
