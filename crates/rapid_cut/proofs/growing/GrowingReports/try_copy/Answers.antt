use Rattle.rapid_cut.proofs.Fresh.{all_none}
use Rattle.rapid_cut.proofs.growing.GrowingReports.try_copy.Goals as goal

pub returns-clause-kept : goal.returns-clause-kept
returns-clause-kept c = all_none c.in_ok-try_copy.field-0 c.new.result.items c.new.ensures.items
