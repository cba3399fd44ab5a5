-- Clauses of public calls cite this file.
-- The code's votes as the definitions see them.
use Rattle.std.specs.Prelude.{Option, Some, None}
use Rattle.rapid_model.specs.Cut.{Cut}
use Rattle.rapid_model.specs.Ballot.{Ballot, Vote}

-- A vote for a cut at a ballot.
abbrev pub vote_of : Ballot × Cut → Vote Cut
vote_of v = record { ballot = v.0; value = v.1 }

-- The last vote, or none.
abbrev pub last_of : Option (Ballot × Cut) → Option (Vote Cut)
last_of None = None
last_of (Some v) = Some (vote_of v)
