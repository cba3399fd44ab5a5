use Rattle.rapid_line.proofs.Moves.{takes, waits}
use Rattle.rapid_line.proofs.ends.pop.Goals as goal

pub pop_as-requires-clause-rule : goal.pop_as-requires-clause-rule
pop_as-requires-clause-rule g c = (takes _ _ _ c.requires.takes, waits _ _ _ c.requires.takes)
