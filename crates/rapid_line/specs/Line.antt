-- Clauses of public calls cite this file.
-- What was put into a queue is what was taken and then what it holds. One pass at most puts and one at most takes.
use Rattle.std.specs.Prelude.{◌≡◌, ℕ, Bool, true, List, [], ◌∷◌, ◌++◌, length}
use mathlib.Core.Option.{some}
use lib.ListN.{get_elem?}
use Rattle.rapid_line.specs.declared.Post.{Post}

module _ {T : Type 0} where
  abbrev pub post : Bool → Bool → List T → List T → Post T
  post a b put taken = record { puts = a; takes = b; put = put; taken = taken }

  abbrev pub StartsWith : List T → List T → Type 0
  StartsWith put taken = (rest : List T) × (put ≡ taken ++ rest)

  -- at one moment these were still to be taken: the others had been, among them all that are known to be taken
  abbrev pub Waiting : List T → List T → List T → Type 0
  Waiting put known items = (taken : List T) × (put ≡ taken ++ items) × StartsWith taken known

  -- at one moment this many of what was put were still to be taken
  abbrev pub Untaken : List T → List T → ℕ → Type 0
  Untaken put known n = (items : List T) × (length items ≡ n) × Waiting put known items

  -- at one moment these were still to be taken: with what had been taken they begin with all that is known to be put
  abbrev pub Coming : List T → List T → List T → Type 0
  Coming taken known items = StartsWith (taken ++ items) known

  -- each item may follow those before it
  abbrev pub Follows : (List T → T → Type 0) → List T → List T → Type 0
  Follows next before [] = Unit {0}
  Follows next before (x ∷ xs) = next before x × Follows next (before ++ x ∷ []) xs

  -- what the rule says of one pass
  pub record Fits (writer reader : ℕ) (put taken : List T) (port : ℕ) (v : Post T) : Type 0 where
    pub puts : v.puts ≡ true → (port ≡ writer) × (v.put ≡ put)
    pub takes : v.takes ≡ true → (port ≡ reader) × (v.taken ≡ taken)
    -- what a pass knows to be put is a beginning of what is put
    pub told : StartsWith put v.put
    -- what a pass knows to be taken is a beginning of what is taken
    pub claims : StartsWith taken v.taken

  pub record Kept (next : List T → T → Type 0) (items : List T) (views : List (Post T)) : Type 0 where
    pub writer : ℕ
    pub reader : ℕ
    pub put : List T
    pub taken : List T
    pub whole : put ≡ taken ++ items
    pub follows : Follows next [] put
    pub each : (port : ℕ) (v : Post T) → get_elem? views port ≡ some v → Fits writer reader put taken port v
