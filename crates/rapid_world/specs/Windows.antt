-- The probe windows of a peer as the definitions see them.
use Rattle.std.specs.Prelude.{Bool, List, [], if◌then◌else◌, Option, Some, None}
use Rattle.std.specs.Option.{option_map}
use Rattle.rapid_model.specs.Process.{Process}
use Rattle.rapid_model.specs.Configuration.{Configuration, configuration_id}
use Rattle.rapid_model.specs.Monitors as model
use Rattle.rapid_model.specs.Node.{Node, configuration_of, member_in}
use Rattle.rapid_world.specs.Framed.{FramedPacket}
use Rattle.rapid_model.specs.WorldStep.{windows_in}
use Rattle.rapid_world.specs.Sent.{Sent}
use Rattle.rapid_world.specs.declared.windows.Windows.{Windows}
use Rattle.rapid_world.specs.declared.windows.Windows.TheVariants.{Fresh, Left, Kept}

-- The windows of a node: fresh ones, those that it left unprobed when it halted, as a member or not, or those that are
-- kept.
abbrev pub windows_of : Windows → Node → model.Monitors
windows_of Fresh n = windows_in (member_in n) n.me
windows_of (Left was_member) n = windows_in (if was_member then configuration_of n else None) n.me
windows_of (Kept m) n = m

-- The windows after the node entered a configuration, if it did.
abbrev pub entered : Bool → Windows → Windows
entered has ws = if has then Fresh else ws

-- The windows after the node halted, which was a member or not.
abbrev pub left : Bool → Windows → Windows
left was_member Fresh = Left was_member
left was_member (Left b) = Left b
left was_member (Kept m) = Kept m

-- The packets of what was sent, if anything was.
abbrev pub packets_in : Option Sent → List FramedPacket
packets_in None = []
packets_in (Some s) = s.packets

-- The edge to a member that is observed, if there is one: the identifier of the configuration, and the member.
abbrev pub edge_of : Option (Configuration × Process) → Option (List Rattle.std.specs.Prelude.ℕ × Process)
edge_of o = option_map (λ x. (configuration_id x.0, x.1)) o
