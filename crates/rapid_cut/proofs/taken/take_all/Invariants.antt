use Rattle.std.proofs.Common.{◌≡◌}
use Rattle.rapid_model.specs.Reports.{Includes}
use Rattle.rapid_cut.specs.Growing.{before, HaveGrown}
use Rattle.rapid_cut.proofs.Taking.{IsTaking, IsTakingInto}
use Rattle.rapid_cut.proofs.taken.take_all.Given as goal

abbrev pub invariant-loop-place : goal.invariant-loop-place
invariant-loop-place g l =
    record {
      taking : IsTaking (g.T.ObserverTable.observers l.table) l.fn.known.reports.direct (g.A.InTurn.alerts l.alerts) l.place l.known.reports.direct l.joiners l.count;
      into : IsTakingInto (g.T.ObserverTable.observers l.table) l.fn.known.reports.direct (g.A.InTurn.alerts l.alerts) l.place l.known.reports.direct l.fn.known.reports.all l.known.reports.all;
      known : Includes l.known.reports.all l.known.reports.direct;
      grown : HaveGrown (g.T.ObserverTable.observers l.table) l.fn.known.reports.direct l.known.reports.direct l.grown.items;
      before : before l.known ≡ before l.fn.known;
    }
