-- Turns as the definitions see them.
use Rattle.rapid_model.specs.Turn as model
use Rattle.rapid_world.specs.Events.{event_of}
use Rattle.rapid_clerks.specs.declared.turn.Turn.{Turn}

-- A turn.
abbrev pub turn_of : Turn → model.Turn
turn_of t = record { event = event_of t.event; pointer = record { passed = t.passed; ticked = t.ticked } }
