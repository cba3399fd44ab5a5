use Rattle.std.proofs.Common.{◌≡◌, drop}
use Rattle.rapid_cut.specs.Growing.{without_all}
use Rattle.rapid_cut.proofs.growing.take_out.Given as goal

abbrev pub invariant-loop-added : goal.invariant-loop-added
invariant-loop-added l = without_all l.reports (drop l.added-index l.others) ≡ without_all l.fn.reports l.others
