use Rattle.std.proofs.Common.{rules}
use Rattle.rapid_cluster.proofs.agreement.differ.Goals as goal

pub returns-then-height : goal.returns-then-height
returns-then-height c = search rules
