use Rattle.std.proofs.Common.{◌≡◌, filter, take}
use Rattle.rapid_model.specs.Reports.{is_unstable}
use Rattle.rapid_cut.proofs.detector.unstable_among.Given as goal

abbrev pub invariant-loop-subject : goal.invariant-loop-subject
invariant-loop-subject g l = l.found.items ≡ filter (is_unstable (g.T.ObserverTable.observers l.table) l.reports.all) (take l.subject-index l.subjects)
