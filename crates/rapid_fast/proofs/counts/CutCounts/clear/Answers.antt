use Rattle.std.proofs.Common.{ap, ◌∙◌}
use Rattle.std.specs.FinMap as map
use Rattle.rapid_fast.proofs.Counting.{no_counts}
use Rattle.rapid_fast.proofs.counts.CutCounts.clear.Goals as goal

pub returns : goal.returns
returns c = ap map.from_sorted c.clear.ensures.items ∙ no_counts
