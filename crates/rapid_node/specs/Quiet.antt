-- Clauses of public calls cite this file.
-- Steps that say nothing.
use Rattle.std.specs.Prelude.{◌≡◌, [], false, Some}
use Rattle.rapid_model.specs.Node.{Node, Event, Outcome, outputs, has_installed}
use Rattle.rapid_model.specs.NodeStep.{node_step}

-- Nothing goes out, and nothing is installed.
pub record SaysNothing (n : Node) (o : Outcome) : Type 0 where
  pub sends : outputs n.me o.effects ≡ []
  pub installs : has_installed n o.node ≡ false

-- The node's step by the event, if there is one, sends nothing.
abbrev pub IsQuiet : Node → Event → Type 0
IsQuiet n e = (o : Outcome) → node_step n e ≡ Some o → SaysNothing n o
