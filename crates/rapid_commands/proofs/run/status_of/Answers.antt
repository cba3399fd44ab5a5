use Rattle.std.proofs.Common.{rules}
use Rattle.rapid_commands.proofs.run.status_of.Goals as goal

pub returns-in-Err-OutOfMemory : goal.returns-in-Err-OutOfMemory
returns-in-Err-OutOfMemory c = search rules

pub returns-in-Err-Read : goal.returns-in-Err-Read
returns-in-Err-Read c = search rules
