use Rattle.std.proofs.Common.{rules, refl}
use Rattle.rapid_view.proofs.Beginnings.{begins_itself}
use Rattle.rapid_view.proofs.seat.look_up.Goals as goal

pub loop-init : goal.loop-init
loop-init g c = (refl, begins_itself _, c.tell.ensures)

pub returns-then-height-clause-missed : goal.returns-then-height-clause-missed
returns-then-height-clause-missed g c = search rules

pub returns-then-height-clause-last : goal.returns-then-height-clause-last
returns-then-height-clause-last g c = search rules
