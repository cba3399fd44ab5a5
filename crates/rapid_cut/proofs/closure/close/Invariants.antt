use Rattle.std.proofs.Common.{◌≡◌, drop}
use Rattle.rapid_cut.specs.Closing.{IsPassing}
use Rattle.rapid_cut.specs.Growing.{before}
use Rattle.rapid_cut.proofs.closure.close.Given as goal

abbrev pub invariant-loop-subject : goal.invariant-loop-subject
invariant-loop-subject g l =
    record {
      direct : l.known.reports.direct ≡ l.fn.known.reports.direct;
      passing : IsPassing (g.T.ObserverTable.observers l.table) l.fn.known.reports.direct (drop l.subject-index l.subjects) l.known.reports.all;
      before : before l.known ≡ before l.fn.known;
    }
