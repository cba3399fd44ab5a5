use Rattle.std.proofs.Common.{◌∙◌, ap}
use Rattle.rapid_line.proofs.Moves.{notes, hears, compares}
use Rattle.rapid_line.proofs.ends.compare.Goals as goal

pub another-note-requires-clause-rule : goal.another-note-requires-clause-rule
another-note-requires-clause-rule g c = notes _ _ _

pub absorb-requires-clause-rule : goal.absorb-requires-clause-rule
absorb-requires-clause-rule g c = hears _ _ _ _ _ c.requires.puts.1

pub learn_as-requires-clause-rule : goal.learn_as-requires-clause-rule
learn_as-requires-clause-rule g c = compares _ _ _ (ap (λ v. v.puts) c.absorb.ensures.rule ∙ c.requires.puts.0)
