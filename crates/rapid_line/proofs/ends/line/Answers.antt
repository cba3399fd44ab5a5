use Rattle.std.proofs.Common.{rules}
use Rattle.rapid_line.proofs.Moves.{begins, parts}
use Rattle.rapid_line.proofs.ends.line.Goals as goal

pub ruled-requires-clause-rule : goal.ruled-requires-clause-rule
ruled-requires-clause-rule g c = begins _

pub another-reader-requires-clause-rule : goal.another-reader-requires-clause-rule
another-reader-requires-clause-rule g c = parts _ _ _ (search rules) (search rules)
