-- Clauses of public calls cite this file.
-- The edges that went down in a round of probes, as events of the node.
use Rattle.std.specs.Prelude.{ℕ, ◌+◌, List, [], ◌∷◌, ◌++◌, Option, Some, None}
use Rattle.rapid_model.specs.Bytes.{ConfigurationId}
use Rattle.rapid_model.specs.Process.{Process}
use Rattle.rapid_model.specs.Node.{Event, EdgeDown}

-- The event of the edge on a ring, if that went down.
abbrev pub down_on : ConfigurationId → ℕ → Option Process → List Event
down_on id ring None = []
down_on id ring (Some subject) = EdgeDown id ring subject ∷ []

-- The events of the edges that went down, where the first is on this ring, and each next on the next.
abbrev pub downs_from : ConfigurationId → ℕ → List (Option Process) → List Event
downs_from id ring [] = []
downs_from id ring (down ∷ downs) = down_on id ring down ++ downs_from id (ring + 1) downs
