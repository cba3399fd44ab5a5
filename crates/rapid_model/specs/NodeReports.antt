-- The reports of a step, read off the node at which its event happens: as it was, and as it is.
use Rattle.std.specs.Prelude.{◌≡◌, ℕ, not, ◌&&◌, List, [], ◌∷◌, if◌then◌else◌, Option, Some, None}
use Rattle.rapid_model.specs.Process.{identifier}
use Rattle.rapid_model.specs.Configuration.{Configuration}
use Rattle.rapid_model.specs.Node.{Node, configuration_of, has_installed, is_halted}
use Rattle.rapid_model.specs.World.{World, Peer, Packet, WorldEvent, Start, Probe, Tick, Deliver, Crash, Leave, MarkedEvent, running_under, running_at, peer_at, packet}
use Rattle.rapid_model.specs.WorldStep.{world_step}
use Rattle.rapid_model.specs.Run.{WorldReport, ReportInstalled, ReportHalted, step_reports}

-- The report of a configuration, if there is one.
abbrev pub installed_report : Node → Option Configuration → List WorldReport
installed_report n None = []
installed_report n (Some c) = ReportInstalled (identifier n.me) c ∷ []

-- What a node reports of its way from one state to another: that it halted, or the configuration that it installed.
abbrev pub reports_between : Node → Node → List WorldReport
reports_between old new =
    if not (is_halted old) && is_halted new then ReportHalted (identifier old.me) ∷ []
    else if has_installed old new then installed_report old (configuration_of new)
    else []

-- The place of the peer that runs at a packet's endpoint.
abbrev pub receiver : World → Option Packet → Option ℕ
receiver w None = None
receiver w (Some x) = running_at w x.to

-- The place of the peer at which an event happens; none at a start.
abbrev pub place_of : World → WorldEvent → Option ℕ
place_of w (Start p seed) = None
place_of w (Probe id k ok) = running_under w id
place_of w (Tick id) = running_under w id
place_of w (Deliver k) = receiver w (packet w k)
place_of w (Crash id) = running_under w id
place_of w (Leave id) = running_under w id

-- What the peer of a place reports, if there is one.
abbrev pub peer_reports : Option Peer → Option Peer → List WorldReport
peer_reports (Some p) (Some q) = reports_between p.node q.node
peer_reports _ _ = []

-- What the node at which an event happens reports of a step.
abbrev pub node_reports : World → MarkedEvent → List WorldReport
node_reports w m = peer_reports (peer_at w (place_of w m.event)) (peer_at (world_step w m) (place_of w m.event))

-- The reports of a step are those of the node at which its event happens.
abbrev pub NodesReport : Type 0
NodesReport = (w : World) (m : MarkedEvent) → step_reports w m ≡ node_reports w m
