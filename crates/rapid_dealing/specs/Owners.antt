-- Clauses of public calls cite this file.
-- To which member of a configuration a key belongs.
use Rattle.std.specs.Prelude.{◌≡◌, ℕ, ◌*◌, ◌%◌, ◌^◌, List, [], ◌∷◌, Option, None, Some, take, nat_lt, if◌then◌else◌}
use Rattle.std.specs.Int.Bits.{bit_xor}
use Rattle.rapid_model.specs.Process.{Process}
use Rattle.rapid_model.specs.Configuration.{Configuration}

-- A hash goes on over bytes (FNV-1a, 64 bits).
abbrev pub hashed : ℕ → List ℕ → ℕ
hashed h [] = h
hashed h (b ∷ bs) = hashed ((bit_xor h b * 0x100000001b3) % 2 ^ 64) bs

-- How much a key weighs at a member, whose identifier and endpoint are hashed first.
abbrev pub weight : List ℕ → Process → ℕ
weight key p = hashed (hashed 0xcbf29ce484222325 (take 22 p)) key

-- The one of two at which the key weighs more; the first if it weighs the same.
abbrev pub pick : List ℕ → Process → Process → Process
pick key p q = if nat_lt (weight key p) (weight key q) then q else p

-- The first of those at which the key weighs most, of a process and these.
abbrev pub heaviest : List ℕ → Process → List Process → Process
heaviest key p [] = p
heaviest key p (q ∷ qs) = heaviest key (pick key p q) qs

-- The owner among these.
abbrev pub owner_in : List ℕ → List Process → Option Process
owner_in key [] = None
owner_in key (p ∷ ps) = Some (heaviest key p (p ∷ ps))

-- The member that owns a key.
abbrev pub owner_of : Configuration → List ℕ → Option Process
owner_of c key = owner_in key c.members

-- In one configuration no key has two owners.
abbrev pub OwnersAreOne : Type 0
OwnersAreOne = (c : Configuration) (key : List ℕ) (p q : Process) → owner_of c key ≡ Some p → owner_of c key ≡ Some q → p ≡ q
