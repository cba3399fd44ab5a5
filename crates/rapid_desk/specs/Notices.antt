-- Clauses of public calls cite this file.
-- What is put for a subscriber: successive views, and then at most one mark.
use Rattle.std.specs.Prelude.{◌≡◌, ◌⊎◌, ℕ, ◌+◌, ◌≤◌, List, [], ◌∷◌, ◌++◌, Option, None, Some, MatchOption}
use Rattle.atomic_table.specs.Seated.{TableId}
use Rattle.rapid_line.specs.Line.{Untaken}
use Rattle.rapid_model.specs.Configuration.{Configuration}
use Rattle.rapid_desk.specs.declared.notice.Notice.{Notice}
use Rattle.rapid_desk.specs.declared.notice.Notice.TheVariants.{Change, Lag, End}
use Rattle.rapid_desk.specs.declared.notice.Loss.{Loss}
use Rattle.rapid_desk.specs.declared.notice.Loss.TheVariants.{Full, Memory}
use Rattle.rapid_desk.specs.declared.notice.State.{State}
use Rattle.rapid_desk.specs.declared.notice.State.TheVariants.{Open, Lagged, Closed}

-- the first mark
abbrev pub state_of : List Notice → State
state_of [] = Open
state_of (Change v ∷ xs) = state_of xs
state_of (Lag loss ∷ xs) = Lagged
state_of (End ∷ xs) = Closed

-- the height of the last change
abbrev pub height_from : Option ℕ → List Notice → Option ℕ
height_from h [] = h
height_from h (Change v ∷ xs) = height_from (Some v.height) xs
height_from h (Lag loss ∷ xs) = height_from h xs
height_from h (End ∷ xs) = height_from h xs

-- a view of this height may come next, after a view before all whose height is known or not
abbrev pub IsNextFrom : Option ℕ → List Notice → ℕ → Type 0
IsNextFrom since before height = MatchOption (height_from since before) (Unit {0}) (λ last. height ≡ last + 1)

-- a view of this height may come next
abbrev pub IsNext : List Notice → ℕ → Type 0
IsNext before height = IsNextFrom None before height

-- nothing follows a mark, and the heights of changes rise by one
abbrev pub MayFollow : List Notice → Notice → Type 0
MayFollow before (Change v) = (state_of before ≡ Open) × IsNext before v.height
MayFollow before (Lag loss) = state_of before ≡ Open
MayFollow before End = state_of before ≡ Open

-- A subscription that is served.
pub record Served : Type 0 where
  pub queue : TableId
  -- the height of the view that was published last when it was made, if there was one
  pub since : Option ℕ
  -- how many changes wait at most
  pub capacity : ℕ
  -- all that was put
  pub put : List Notice
  -- what is known to be taken of it
  pub known : List Notice

-- One notice more was put.
abbrev pub with_notice : Served → Notice → Served
with_notice s x = record { queue = s.queue; since = s.since; capacity = s.capacity; put = s.put ++ x ∷ []; known = s.known }

-- Why a change was not put. The queue was full: at one moment at least as many changes as may wait were still to be
-- taken. Or a growth was refused.
abbrev pub IsLost : Served → Loss → Type 0
IsLost s Full = (n : ℕ) × (s.capacity ≤ n) × Untaken s.put s.known n
IsLost s Memory = Unit {0}

-- The view is put as the next after those before it, or a mark in its place, which says why it is lost; behind a mark
-- nothing is.
abbrev pub OfferedIn : State → Configuration → Served → Served → Type 0
OfferedIn Open view old new =
    ((new ≡ with_notice old (Change view)) × IsNextFrom old.since old.put view.height) ⊎ ((loss : Loss) × (new ≡ with_notice old (Lag loss)) × IsLost old loss)
OfferedIn Lagged view old new = new ≡ old
OfferedIn Closed view old new = new ≡ old

abbrev pub Offered : Configuration → Served → Served → Type 0
Offered view old new = OfferedIn (state_of old.put) view old new

-- The end is put, but behind a mark nothing is.
abbrev pub EndedIn : State → Served → Served → Type 0
EndedIn Open old new = new ≡ with_notice old End
EndedIn Lagged old new = new ≡ old
EndedIn Closed old new = new ≡ old

abbrev pub Ended : Served → Served → Type 0
Ended old new = EndedIn (state_of old.put) old new
