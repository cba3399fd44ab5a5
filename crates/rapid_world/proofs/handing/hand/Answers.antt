use Rattle.std.proofs.Common.{subst}
use Rattle.rapid_model.specs.Node as model
use Rattle.rapid_node.specs.Quiet.{IsQuiet}
use Rattle.rapid_node.specs.Steps.{event_of}
use Rattle.rapid_world.proofs.Giving.{none_more, none_framed}
use Rattle.rapid_world.proofs.handing.hand.Goals as goal

pub take_quietly-requires-clause-quiet : goal.take_quietly-requires-clause-quiet
take_quietly-requires-clause-quiet c = subst (λ (n : model.Node). IsQuiet n (event_of c.args.event.now)) c.node.ensures (c.is_quiet.ensures c.if-is_quiet.true)

pub returns-then-is_quiet-clause-packets : goal.returns-then-is_quiet-clause-packets
returns-then-is_quiet-clause-packets c = none_more _ _ c.take_quietly.ensures.packets

pub returns-then-is_quiet-clause-framed : goal.returns-then-is_quiet-clause-framed
returns-then-is_quiet-clause-framed c = none_framed _ c.take_quietly.ensures.packets
