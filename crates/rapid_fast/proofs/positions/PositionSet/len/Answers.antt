use Rattle.std.proofs.Common.{◌≤◌, subst}
use Rattle.std.specs.FinSet as set
use Rattle.rapid_fast.proofs.BitSets.{few_positions}
use Rattle.rapid_fast.proofs.positions.PositionSet.len.Goals as goal

pub returns-clause-few : goal.returns-clause-few
returns-clause-few c = subst (λ s. set.len s ≤ 1024) c.self.view_is (few_positions c.self.inside.words)
