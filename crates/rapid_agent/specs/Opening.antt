-- Clauses of public calls cite this file.
-- What an agent keeps of its options, and how its service begins.
use Rattle.std.specs.Prelude.{◌≡◌, ℕ, ◌*◌, ◌≤◌, max, [], ◌∷◌, Option, Some, None}
use Rattle.std.specs.Duration.{as_nanos}
use Rattle.std.specs.declared.time.Duration.{Duration}
use Rattle.rapid_model.specs.Bytes.{Endpoint}
use Rattle.rapid_model.specs.Process.{Process}
use Rattle.rapid_model.specs.Configuration.{Params, founding}
use Rattle.rapid_model.specs.Limits.{most_probers}
use Rattle.rapid_desk.specs.States.{DeskState}
use Rattle.rapid_desk.specs.Desks.{seed_state, joiner_state}
use Rattle.rapid_options.specs.declared.options.NodeOptions.{NodeOptions}

-- An agent with these options is at their endpoint, ticks as often as they say, and probes in as many threads, at most
-- 16. Its probes are dealt in as many parts, of which there is at least one.
pub record IsOpenedBy (options : NodeOptions) (endpoint : Endpoint) (period : Duration) (probers parts : ℕ) : Type 0 where
  pub listens : endpoint ≡ options.listen
  pub ticks : as_nanos period ≡ options.tick_ms * 1_000_000
  pub limited : probers ≤ most_probers
  pub fewer : options.probers ≤ most_probers → probers ≡ options.probers
  pub dealt : parts ≡ max 1 probers

-- The desk of a process at first: of one that founds a cluster of these parameters, in which it is alone, or of one
-- that joins by the seed that is named.
abbrev pub opening_state : Params → Option Endpoint → Process → DeskState
opening_state params None me = seed_state (founding params (me ∷ [])) me
opening_state params (Some seed) me = joiner_state me seed
