-- Which actions are taken.
use Rattle.std.specs.Prelude.{◌≡◌, ◌==◌, ◌&&◌, ◌||◌, Bool, true, false, Option, None, Some, List, [], ◌∷◌, nat_lt, if◌then◌else◌}
use Rattle.std.specs.List.{Contains}
use Rattle.rapid_model.specs.Process.{same_bytes}
use Rattle.leader_by_height.specs.declared.fence.Action.{Action}
use Rattle.leader_by_height.specs.declared.fence.Answer.{Answer}
use Rattle.leader_by_height.specs.declared.fence.Answer.TheVariants.{Taken, Refused}

-- An action may follow the last one: its height is above, or it is of the same leader at the same height.
abbrev pub may_follow : Option Action → Action → Bool
may_follow None a = true
may_follow (Some last) a = nat_lt last.height a.height || ((last.height == a.height) && same_bytes last.leader a.leader)

abbrev pub answer_to : Option Action → Action → Answer
answer_to last a = if may_follow last a then Taken else Refused

-- The last action that was taken, after this one came.
abbrev pub last_after : Option Action → Action → Option Action
last_after last a = if may_follow last a then Some a else last

-- Those of these actions that are taken, one after the other, behind the last that was taken before.
abbrev pub taken_of : Option Action → List Action → List Action
taken_of last [] = []
taken_of last (a ∷ more) = if may_follow last a then (a ∷ taken_of (Some a) more) else taken_of last more

-- Whatever actions come, and in whatever order: of those that are taken, two of one height are of one leader.
abbrev pub OneLeaderActs : Type 0
OneLeaderActs = (all : List Action) (a b : Action) → Contains (taken_of None all) a → Contains (taken_of None all) b → a.height ≡ b.height → a.leader ≡ b.leader
