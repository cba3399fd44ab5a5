use Rattle.std.proofs.Common.{◌≡◌, take}
use Rattle.rapid_rings.specs.Seats.{moved}
use Rattle.rapid_rings.proofs.seats.seats_moved.Given as goal

abbrev pub invariant-loop-seat : goal.invariant-loop-seat
invariant-loop-seat l = l.kept.items ≡ moved l.places (take l.seat-index l.seats)
