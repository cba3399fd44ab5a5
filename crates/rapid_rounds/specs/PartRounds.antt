-- Clauses of public calls cite this file.
-- What a round of a part of the probes asks for.
use Rattle.std.specs.Prelude.{ℕ, List, replicate, slice_set, Some, None}
use Rattle.rapid_model.specs.Limits.{most_rings}
use Rattle.rapid_model.specs.Process.{Process}
use Rattle.rapid_rounds.specs.declared.part.PartRound.{PartRound}

-- A round in the configuration with this identifier that asks for nothing.
abbrev pub blank_round : List ℕ → PartRound
blank_round id = record { id = id; probes = replicate most_rings None; downs = replicate most_rings None }

-- A round that also asks for a probe of a process on a ring.
abbrev pub with_probe : PartRound → ℕ → Process → PartRound
with_probe r ring p = record { id = r.id; probes = slice_set r.probes ring (Some p); downs = r.downs }

-- A round that also says that the edge to a process on a ring went down.
abbrev pub with_down : PartRound → ℕ → Process → PartRound
with_down r ring p = record { id = r.id; probes = r.probes; downs = slice_set r.downs ring (Some p) }
