use Rattle.rapid_line.proofs.Moves.{puts, counts}
use Rattle.rapid_line.proofs.ends.push.Goals as goal

pub push_as-requires-clause-rule : goal.push_as-requires-clause-rule
push_as-requires-clause-rule g c = (puts _ _ _ _ _ c.requires.puts c.requires.next, counts _ _ _ c.requires.puts)
