use Rattle.std.proofs.Common.{◌≡◌}
use Rattle.std.specs.List.{find}
use Rattle.rapid_world.specs.Found.{runs}
use Rattle.rapid_world.proofs.peers.Nodes.least_running.Given as goal

abbrev pub invariant-loop-id : goal.invariant-loop-id
invariant-loop-id l = find (runs l.self) l.id-iterator ≡ find (runs l.self) l.initial.id-iterator
