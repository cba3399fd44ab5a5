use Rattle.std.proofs.Common.{nat_cmp, ap, ◌∙◌}
use Rattle.std.specs.FinSet as set
use Rattle.rapid_sim.specs.Settling.{settled_by}
use Rattle.rapid_sim.proofs.Settling.{none_settled}
use Rattle.rapid_sim.proofs.settled.Settled.new.Goals as goal

pub invariant_of-result : goal.invariant_of-result
invariant_of-result c = λ _. ap (λ s. set.contains s 1) c.new.ensures ∙ set.contains-empty nat_cmp 1

pub returns : goal.returns
returns c = ap (settled_by 0) c.new.ensures ∙ none_settled
