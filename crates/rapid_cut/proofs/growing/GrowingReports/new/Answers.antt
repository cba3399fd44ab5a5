use Rattle.rapid_cut.proofs.Fresh.{all_none}
use Rattle.rapid_cut.proofs.growing.GrowingReports.new.Goals as goal

pub returns-clause-kept : goal.returns-clause-kept
returns-clause-kept c = all_none c.new.result c.new-2.result.items c.new-2.ensures.items
