use Rattle.std.proofs.Common.{◌≡◌, map, take}
use Rattle.rapid_rings.specs.Seats.{placed}
use Rattle.rapid_rings.proofs.seats.seats_at.Given as goal

abbrev pub invariant-loop-place : goal.invariant-loop-place
invariant-loop-place l = l.seats.items ≡ map (placed l.ring l.members) (take l.place-index l.places)
