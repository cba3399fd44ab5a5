use Rattle.std.proofs.Common.{rules}
use Rattle.rapid_node.proofs.node.Node.step_into.Goals as goal

pub returns-in-Halted-clause-running : goal.returns-in-Halted-clause-running
returns-in-Halted-clause-running c = search rules
