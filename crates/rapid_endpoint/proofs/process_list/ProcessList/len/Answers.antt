use Rattle.rapid_endpoint.proofs.Listed.{count_is}
use Rattle.rapid_endpoint.proofs.process_list.ProcessList.len.Goals as goal

pub returns : goal.returns
returns c = rw (← c.self.view_is) (count_is _ _ c.self.invariant)
