-- Clauses of public calls cite this file.
-- Members before and after a call.
use Rattle.std.specs.Prelude.{◌≡◌}
use Rattle.rapid_model.specs.Node.{MemberState}

-- The second state is of the same member in the same configuration.
abbrev pub IsSameMember : MemberState → MemberState → Type 0
IsSameMember s t = (t.me ≡ s.me) × (t.config ≡ s.config)
