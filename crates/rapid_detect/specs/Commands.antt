-- Commands as the definitions see them.
use Rattle.rapid_model.specs.DetectLine as model
use Rattle.rapid_model.specs.DetectText as text
use Rattle.rapid_model.specs.Numbered.{numbered}
use Rattle.rapid_alerts.specs.Alerts.{kind_of}
use Rattle.rapid_detect.specs.declared.command.Place.{Place}
use Rattle.rapid_detect.specs.declared.command.DetectCommand.{DetectCommand}
use Rattle.rapid_detect.specs.declared.command.DetectCommand.TheVariants.{Watermarks, Joiner, Edge, Report, Batch}
use Rattle.rapid_detect.specs.declared.command.DetectAsked.{DetectAsked}
use Rattle.rapid_detect.specs.declared.command.DetectAsked.TheVariants.{Nothing, Unknown, Taken}

-- A place.
abbrev pub place_of : Place → model.Place
place_of x = record { ring = x.ring; observer = numbered x.observer; subject = numbered x.subject }

-- A command.
abbrev pub command_of : DetectCommand → model.DetectLine
command_of (Watermarks k h l) = model.Watermarks (record { k = k; h = h; l = l })
command_of (Joiner n) = model.Joiner (numbered n)
command_of (Edge x) = model.Edge (place_of x)
command_of (Report kind x) = model.Report (kind_of kind) (place_of x)
command_of Batch = model.Batch

-- What a line asks for.
abbrev pub asked_of : DetectAsked → text.Asked
asked_of Nothing = text.Nothing
asked_of Unknown = text.Unknown
asked_of (Taken c) = text.Command (command_of c)
