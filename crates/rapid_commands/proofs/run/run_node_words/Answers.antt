use Rattle.std.proofs.Common.{map}
use Rattle.rapid_commands.proofs.NodeWords.{refused_as_unfit}
use Rattle.rapid_commands.proofs.run.run_node_words.Goals as goal

pub returns-in-Some-clause-fault : goal.returns-in-Some-clause-fault
returns-in-Some-clause-fault g c =
    λ is. refused_as_unfit (map g.S.AsStr.text c.args.words.now) _ c.in-Ok.ensures.found c.in-Some.ensures.named (c.run_as_node.ensures.fault is)
