use Rattle.rapid_cut.proofs.Passing.{AreMissing}
use Rattle.rapid_cut.proofs.closure.implied_rings.Given as goal

abbrev pub invariant-loop-ring : goal.invariant-loop-ring
invariant-loop-ring g l = AreMissing (g.T.ObserverTable.observers l.table) l.reports.direct l.subject l.mask l.ring l.implied
