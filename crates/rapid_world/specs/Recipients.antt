-- The recipients of what a node sends to the others.
use Rattle.std.specs.Prelude.{ℕ, suc, List, [], ◌++◌, take, drop, length, ◌<◌, Option, Some, None}
use Rattle.rapid_model.specs.Process.{Process}
use Rattle.rapid_model.specs.Configuration.{Configuration}

-- These processes without the one at a place, if any.
abbrev pub without : List Process → Option ℕ → List Process
without ps None = ps
without ps (Some i) = take i ps ++ drop (suc i) ps

-- The members of a configuration, if there is one, without the one at a place, if any.
abbrev pub recipients_in : Option Configuration → Option ℕ → List Process
recipients_in None left_out = []
recipients_in (Some c) left_out = without c.members left_out

-- The place is one of a member.
abbrev pub IsPlaceIn : Option Configuration → Option ℕ → Type 0
IsPlaceIn c None = Unit {0}
IsPlaceIn None (Some i) = ⊥
IsPlaceIn (Some c) (Some i) = i < length c.members
