use Rattle.rapid_cut.proofs.Fresh.{all_none}
use Rattle.rapid_cut.proofs.growing.GrowingReports.keep.Goals as goal

pub returns-clause-kept : goal.returns-clause-kept
returns-clause-kept c = all_none c.args.self.now.reports c.clear.new.self.items c.clear.ensures.items
