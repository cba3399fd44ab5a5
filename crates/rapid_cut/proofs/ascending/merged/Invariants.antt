use Rattle.std.proofs.Common.{take, drop}
use Rattle.rapid_cut.proofs.Merging.{IsMerging}
use Rattle.rapid_cut.proofs.ascending.merged.Given as goal

abbrev pub invariant-loop-process : goal.invariant-loop-process
invariant-loop-process l = IsMerging l.first (take l.process-index l.second) (drop l.process-index l.second) l.found.items l.rest
