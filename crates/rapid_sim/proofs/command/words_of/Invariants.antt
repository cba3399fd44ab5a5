use Rattle.std.proofs.Common.{◌≡◌, ◌++◌, map, length}
use Rattle.rapid_model.specs.Lines.{words}
use Rattle.rapid_sim.proofs.command.words_of.Given as goal

abbrev pub invariant-loop-word : goal.invariant-loop-word
invariant-loop-word l = words l.line ≡ map (λ word. word.now) l.found.items ++ words l.rest

abbrev pub decreases-loop-word : goal.decreases-loop-word
decreases-loop-word l = length (words l.rest)
