use Rattle.std.proofs.Common.{rules}
use Rattle.rapid_cluster.proofs.report.write_line.Goals as goal

pub returns-in-Removed : goal.returns-in-Removed
returns-in-Removed c = search rules
