use Rattle.std.proofs.Common.{◌≡◌, filter, take}
use Rattle.rapid_model.specs.Reports.{is_stable}
use Rattle.rapid_cut.proofs.detector.stable_among.Given as goal

abbrev pub invariant-loop-subject : goal.invariant-loop-subject
invariant-loop-subject g l = l.found.items ≡ filter (is_stable (g.T.ObserverTable.observers l.table) l.reports.all) (take l.subject-index l.subjects)
