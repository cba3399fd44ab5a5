-- Lists that others begin, and processes of a list that are spelt.
use Rattle.std.specs.Prelude.{◌≡◌, ◌≤◌, ℕ, [], ◌∷◌, ◌++◌, List, length, drop, slice_get, Some, Ok}
use Rattle.rapid_model.specs.Process.{Process, process_at}
use Rattle.rapid_endpoint.specs.InBoth.{IsInBoth}
use Rattle.rapid_alerts.specs.declared.list.Item.{Item}

-- These processes are the first ones, and maybe more after them.
abbrev pub Grows : List Process → List Process → Type 0
Grows old new = (rest : List Process) × (new ≡ old ++ rest)

-- The process at the place is the one in front of the bytes, and takes so many of them.
pub record IsSpeltIn (subjects : List Process) (place : ℕ) (bytes : List ℕ) (n : ℕ) : Type 0 where
  pub subject : Process
  pub at : slice_get subjects place ≡ Some subject
  pub read : process_at bytes ≡ Ok (subject, drop n bytes)
  pub within : n ≤ length bytes

-- The last of these items has the place, and the same process without tags is in front of both.
pub record IsAgain (items : List Item) (bytes before : List ℕ) (place : ℕ) : Type 0 where
  pub others : List Item
  pub item : Item
  pub last : items ≡ others ++ item ∷ []
  pub at : item.place ≡ place
  pub both : IsInBoth bytes before
