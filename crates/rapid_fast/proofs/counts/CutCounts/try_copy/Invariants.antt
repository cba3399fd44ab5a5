use Rattle.std.proofs.Common.{◌≡◌, take}
use Rattle.rapid_fast.proofs.counts.CutCounts.try_copy.Given as goal

abbrev pub invariant-loop-cut : goal.invariant-loop-cut
invariant-loop-cut l = l.counts.items ≡ take l.cut-index l.self-inside.counts.items
