use Rattle.std.proofs.Common.{rules}
use Rattle.rapid_detect.proofs.detect.run_detect.Goals as goal

pub returns-clause-written : goal.returns-clause-written
returns-clause-written g c = search rules
