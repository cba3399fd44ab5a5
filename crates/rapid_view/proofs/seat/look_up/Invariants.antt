use Rattle.std.proofs.Common.{◌≡◌}
use Rattle.rapid_model.specs.PublishedList.{HeightsRise, IsBeginning}
use Rattle.rapid_view.proofs.seat.look_up.Given as goal

abbrev pub invariant-loop : goal.invariant-loop
invariant-loop g l = (l.stamps.cell ≡ l.initial.stamps.cell) × IsBeginning l.initial.stamps.seen l.stamps.seen × HeightsRise l.stamps.seen
