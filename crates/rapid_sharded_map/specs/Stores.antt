-- To whom keys are dealt: to those members that have the tag `store`.
use Rattle.std.specs.Prelude.{◌≡◌, ◌↔◌, true, Bool, List, [], ◌∷◌, All, Contains, Option, None, Some, IfSome}
use Rattle.std.specs.List.{list_any}
use Rattle.rapid_model.specs.Tags.{Tag, tags_of}
use Rattle.rapid_model.specs.Process.{Process, tags_bytes_of, same_bytes}
use Rattle.rapid_model.specs.Configuration.{Configuration, is_member}

-- The tag `store`.
abbrev pub store : Tag
store = 0x73 ∷ 0x74 ∷ 0x6f ∷ 0x72 ∷ 0x65 ∷ []

-- The process has the tag.
abbrev pub HasTag : Process → Tag → Type 0
HasTag p t = Contains (tags_of (tags_bytes_of p)) t

-- The same of the tag `store`, as a test.
abbrev pub has_store : Process → Bool
has_store p = list_any (same_bytes store) (tags_of (tags_bytes_of p))

-- The members of a configuration, if there is one.
abbrev pub members_of : Option Configuration → List Process
members_of None = []
members_of (Some c) = c.members

-- The owner of a key is a member of the configuration that has the tag. It is nobody exactly if no member has it.
pub record IsOwner (c : Configuration) (owner : Option Process) : Type 0 where
  pub member : IfSome owner (λ p. (is_member c p ≡ true) × HasTag p store)
  pub nobody : (owner ≡ None) ↔ All (λ p. HasTag p store → ⊥) c.members
