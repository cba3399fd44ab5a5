-- Clauses of public calls cite this file.
-- Why a vote is refused.
use Rattle.std.specs.Prelude.{ℕ, ◌≤◌, ◌<◌}
use Rattle.rapid_model.specs.FastRound.{FastRound}
use Rattle.rapid_fast.specs.declared.round.HearError.{HearError}
use Rattle.rapid_fast.specs.declared.round.HearError.TheVariants.{NotMember, OutOfMemory}

-- The position is no member's; out of memory is answered to members alone.
abbrev pub IsHearRefusal : FastRound → ℕ → HearError → Type 0
IsHearRefusal f p NotMember = f.size ≤ p
IsHearRefusal f p OutOfMemory = p < f.size

-- The numbers of the refusals.
abbrev pub hear_code : HearError → ℕ
hear_code NotMember = 1
hear_code OutOfMemory = 99
