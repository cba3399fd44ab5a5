use Rattle.std.proofs.Common.{sym, ◌∙◌}
use Rattle.rapid_node.specs.Steps.{event_of}
use Rattle.rapid_world.proofs.Going.{room_goes}
use Rattle.rapid_world.proofs.outcome.has_outcome.Goals as goal

pub returns-then-has_room : goal.returns-then-has_room
returns-then-has_room c = sym (room_goes c.args.node.now (event_of c.args.event.now) (sym c.has_room.ensures ∙ c.if-has_room.true))
