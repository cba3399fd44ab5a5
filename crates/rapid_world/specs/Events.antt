-- Clauses of public calls cite this file.
-- The events, reports and refusals of a world, as the definitions see them.
use Rattle.std.specs.Prelude.{◌≡◌, ℕ, Bool, Option, Some, None}
use Rattle.rapid_model.specs.World as model
use Rattle.rapid_model.specs.Refusal as refusal
use Rattle.rapid_model.specs.Run.{WorldReport, ReportInstalled, ReportHalted}
use Rattle.rapid_world.specs.declared.event.WorldEvent.{WorldEvent}
use Rattle.rapid_world.specs.declared.event.WorldEvent.TheVariants.{Start, Probe, Tick, Deliver, Crash, Leave}
use Rattle.rapid_world.specs.declared.report.Report.{Report}
use Rattle.rapid_world.specs.declared.report.Report.TheVariants.{Installed, Halted}
use Rattle.rapid_world.specs.declared.error.WorldError.{WorldError}
use Rattle.rapid_world.specs.declared.error.WorldError.TheVariants.{IdentifierUsed, EndpointBusy, NoSuchNode, NoSuchPacket, NotObserved, EventsFull, OutOfMemory}

-- An event.
abbrev pub event_of : WorldEvent → model.WorldEvent
event_of (Start p seed) = model.Start p seed
event_of (Probe id k ok) = model.Probe id k ok
event_of (Tick id) = model.Tick id
event_of (Deliver k) = model.Deliver k
event_of (Crash id) = model.Crash id
event_of (Leave id) = model.Leave id

-- An event that was accepted, with its mark.
abbrev pub marked_of : WorldEvent × Bool → model.MarkedEvent
marked_of x = record { event = event_of x.0; halts = x.1 }

-- A report.
abbrev pub report_of : Report → WorldReport
report_of (Installed id c) = ReportInstalled id c
report_of (Halted id) = ReportHalted id

-- The number of an error.
abbrev pub code_of : WorldError → ℕ
code_of IdentifierUsed = 1
code_of EndpointBusy = 2
code_of NoSuchNode = 3
code_of NoSuchPacket = 4
code_of NotObserved = 5
code_of EventsFull = 6
code_of OutOfMemory = 7

-- The error says exactly why the event is refused. That the world itself is out of memory is answered only if the event
-- is not refused.
abbrev pub Refuses : Option refusal.WorldRefusal → WorldError → Type 0
Refuses r IdentifierUsed = r ≡ Some refusal.IdentifierUsed
Refuses r EndpointBusy = r ≡ Some refusal.EndpointBusy
Refuses r NoSuchNode = r ≡ Some refusal.NoSuchNode
Refuses r NoSuchPacket = r ≡ Some refusal.NoSuchPacket
Refuses r NotObserved = r ≡ Some refusal.NotObserved
Refuses r EventsFull = r ≡ Some refusal.EventsFull
Refuses r OutOfMemory = r ≡ None

-- How often a refused event met a refused allocation.
abbrev pub error_wants : WorldError → ℕ
error_wants OutOfMemory = 1
error_wants _ = 0
