use Rattle.std.proofs.Common.{rules}
use Rattle.rapid_node.proofs.node.Node.process.Goals as goal

pub returns : goal.returns
returns c = search rules
