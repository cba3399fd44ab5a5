use Rattle.std.proofs.Common.{◌≡◌, map, take}
use Rattle.rapid_model.specs.Node.{seed_node}
use Rattle.rapid_model.specs.WorldStep.{added}
use Rattle.rapid_world.proofs.founding.founders_of.Given as goal

abbrev pub invariant-loop-process : goal.invariant-loop-process
invariant-loop-process l = l.peers ≡ map (λ p. added (seed_node l.configuration p)) (take l.process-index l.members)
