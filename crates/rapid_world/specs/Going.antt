-- Whether there is room for what a node may install.
use Rattle.std.specs.Prelude.{Bool, true, not, List, Option, Some, None}
use Rattle.rapid_model.specs.Configuration.{Configuration, Stamp}
use Rattle.rapid_model.specs.Node.{Node, configuration_of}
use Rattle.rapid_model.specs.NodeStep.{is_history_full}

-- There is room for a view after that of the configuration, if there is one, and all that were installed.
abbrev pub has_room_after : List Stamp → Option Configuration → Bool
has_room_after installed None = true
has_room_after installed (Some c) = not (is_history_full installed c)

-- A node has room for a further view.
abbrev pub has_room : Node → Bool
has_room n = has_room_after n.installed (configuration_of n)
