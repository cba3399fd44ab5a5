use Rattle.std.proofs.Common.{ap, ◌∙◌}
use Rattle.rapid_endpoint.specs.ProcessesIn.{processes_in}
use Rattle.rapid_endpoint.proofs.Listed.{all_in}
use Rattle.rapid_endpoint.proofs.process_list.ProcessList.iter.Goals as goal

pub returns : goal.returns
returns c = ap (processes_in c.self.inside.count) c.as_slice.ensures.value ∙ all_in _ _ c.self.invariant ∙ c.self.view_is
