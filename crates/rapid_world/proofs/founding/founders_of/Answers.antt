use Rattle.std.proofs.Common.{List, sym, subst, arith}
use Rattle.rapid_model.specs.Node.{seed_node}
use Rattle.rapid_model.specs.World.{Peer}
use Rattle.rapid_model.specs.WorldStep.{added}
use Rattle.rapid_world.specs.Found.{IsNew}
use Rattle.rapid_world.proofs.Founders.{is_there}
use Rattle.rapid_world.proofs.Finding.{founder_new}
use Rattle.rapid_world.proofs.founding.founders_of.Goals as goal

pub found-requires-clause-member : goal.found-requires-clause-member
found-requires-clause-member c =
    is_there c.args.configuration.now c.args.members.now c.loop-process.process-index c.process-item.result c.requires (omega arith) c.process-item.is

pub found-requires-clause-new : goal.found-requires-clause-new
found-requires-clause-new c =
    subst (λ (l : List Peer). IsNew l (added (seed_node c.args.configuration.now c.process-item.result))) (sym c.loop-process.invariant)
    (founder_new c.args.configuration.now c.args.members.now c.loop-process.process-index c.process-item.result c.tell.ensures.members c.requires (omega arith) c.process-item.is)
