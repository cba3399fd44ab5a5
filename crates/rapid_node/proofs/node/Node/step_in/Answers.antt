use Rattle.std.proofs.Common.{rules}
use Rattle.rapid_node.proofs.node.Node.step_in.Goals as goal

pub returns-clause-step : goal.returns-clause-step
returns-clause-step c = search rules
