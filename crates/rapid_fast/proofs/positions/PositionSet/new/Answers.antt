use Rattle.std.proofs.Common.{ap, sym, ◌∙◌}
use Rattle.std.specs.Ordering.{nat_cmp}
use Rattle.std.specs.FinSet as set
use Rattle.rapid_fast.proofs.BitSets.{no_positions}
use Rattle.rapid_fast.proofs.positions.PositionSet.new.Goals as goal

pub invariant_of-result : goal.invariant_of-result
invariant_of-result c = sym (ap set.len no_positions ∙ set.len-empty nat_cmp)

pub returns : goal.returns
returns c = no_positions
