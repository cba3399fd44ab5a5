use Rattle.rapid_alerts.proofs.Marks.{none_in, none_index}
use Rattle.rapid_alerts.proofs.index.Index.new.Goals as goal

pub invariant_of-result : goal.invariant_of-result
invariant_of-result c = none_index c.new.result.items c.new.ensures.items

pub returns : goal.returns
returns c = none_in c.new.result.items c.new.ensures.items
