-- Clauses of public calls cite this file.
-- What members propose.
use Rattle.std.specs.Prelude.{◌≡◌, Some}
use Rattle.rapid_model.specs.Process.{Process}
use Rattle.rapid_model.specs.Cut.{Cut}
use Rattle.rapid_model.specs.Configuration.{Configuration}
use Rattle.rapid_model.specs.World.{World}
use Rattle.rapid_model.specs.History.{proposed}
use Rattle.rapid_model.specs.Agreement.{IsSupported}

-- Each cut that a member proposed is supported, by alerts that this member took.
abbrev pub ProposalsSupported : World → Type 0
ProposalsSupported w = (p : Process) (c : Configuration) (v : Cut) → proposed w p c ≡ Some v → (s : IsSupported w c v) × (s.proposer ≡ p)
