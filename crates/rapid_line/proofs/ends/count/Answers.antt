use Rattle.rapid_line.proofs.Moves.{counts}
use Rattle.rapid_line.proofs.ends.count.Goals as goal

pub len_as-requires-clause-rule : goal.len_as-requires-clause-rule
len_as-requires-clause-rule g c = counts _ _ _ c.requires.puts
