use Rattle.std.proofs.Common.{◌++◌, List, take}
use Rattle.rapid_model.specs.Configuration.{Stamp}
use Rattle.rapid_cluster.specs.Noting.{Notes}
use Rattle.rapid_cluster.proofs.agreement.Agreement.see_all.Given as goal

abbrev pub invariant-loop-stamp : goal.invariant-loop-stamp
invariant-loop-stamp l =
    (seen : List Stamp) → Notes seen l.fn.self.kept.items l.fn.self.split → Notes (seen ++ take l.stamp-index l.stamps) l.self.kept.items l.self.split
