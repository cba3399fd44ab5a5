use Rattle.std.proofs.Common.{◌≡◌, map, take}
use Rattle.rapid_model.specs.Configuration.{position_of}
use Rattle.rapid_rings.proofs.places.places_in.Given as goal

abbrev pub invariant-loop-process : goal.invariant-loop-process
invariant-loop-process l = l.places.items ≡ map (position_of l.configuration) (take l.process-index l.processes)
