use Rattle.std.proofs.Common.{rules}
use Rattle.rapid_node.proofs.fault.NodeFault.code.Goals as goal

pub returns-in-HistoryFull : goal.returns-in-HistoryFull
returns-in-HistoryFull c = search rules
