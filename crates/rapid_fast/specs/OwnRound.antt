-- Clauses of public calls cite this file.
-- The fast round as the member at a position keeps it.
use Rattle.std.specs.Prelude.{ℕ, ◌≤◌, refl}
use Rattle.std.specs.Coded.{Coded, code_by, coded×, coded_ℕ}
use Rattle.std.specs.FinSet as set
use Rattle.rapid_model.specs.Cut.{Cut}
use Rattle.rapid_model.specs.FastRound.{FastRound, count_of, fresh_round, hear_vote}
use Rattle.rapid_model.specs.Codes.{fast_code}
use Rattle.rapid_model.specs.Limits.{most_members}

-- A fast round and the member's own position in it.
pub record OwnRound : Type 0 where
  pub position : ℕ
  pub round : FastRound

-- Own rounds.
abbrev pub own_code : Coded OwnRound
own_code =
    code_by (ℕ × FastRound) (coded× coded_ℕ fast_code) (λ r. (r.position, r.round)) (λ p. record { position = p.0; round = p.1 }) (λ _. refl)

-- The round of n members, as the one at the position keeps it, before any vote.
abbrev pub fresh_own : ℕ → ℕ → OwnRound
fresh_own n p = record { position = p; round = fresh_round n }

-- The round after a vote of the member at a position.
abbrev pub after_vote : OwnRound → ℕ → Cut → OwnRound
after_vote r p v = record { position = r.position; round = hear_vote r.round p v }

-- There are at most 1,024 members, and no cut has more votes than there are voters.
pub record IsRound (r : OwnRound) : Type 0 where
  pub few : r.round.size ≤ most_members
  pub counted : (v : Cut) → count_of r.round.counts v ≤ set.len r.round.heard
