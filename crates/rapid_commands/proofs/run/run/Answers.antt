use Rattle.std.proofs.Common.{rules}
use Rattle.rapid_commands.proofs.run.run.Goals as goal

pub returns-clause-begun : goal.returns-clause-begun
returns-clause-begun g c = search rules
