use Rattle.std.proofs.Common.{◌≡◌, ◌++◌, map, take}
use Rattle.rapid_model.specs.SimText.{reports_text}
use Rattle.rapid_world.specs.Events.{report_of}
use Rattle.rapid_sim.proofs.view.write_reports.Given as goal

abbrev pub invariant-loop-report : goal.invariant-loop-report
invariant-loop-report l = l.output.items ≡ l.fn.output.items ++ reports_text (map report_of (take l.report-index l.reports))
