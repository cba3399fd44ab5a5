use Rattle.std.proofs.Common.{◌≡◌, length}
use Rattle.rapid_model.specs.Lines.{words}
use Rattle.rapid_model.specs.SimLine.{all_named}
use Rattle.rapid_sim.proofs.Founders.{before_all}
use Rattle.rapid_sim.proofs.command.all_named.Given as goal

abbrev pub invariant-loop-word : goal.invariant-loop-word
invariant-loop-word l = all_named (words l.line) ≡ before_all l.found.items (all_named (words l.rest))

abbrev pub decreases-loop-word : goal.decreases-loop-word
decreases-loop-word l = length (words l.rest)
