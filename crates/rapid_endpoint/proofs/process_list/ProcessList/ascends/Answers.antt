use Rattle.std.proofs.Common.{[], ap, ◌∙◌}
use Rattle.rapid_model.specs.Tags.{ascend_from}
use Rattle.rapid_endpoint.specs.ProcessesIn.{processes_in}
use Rattle.rapid_endpoint.proofs.Ascents.{ascend_is}
use Rattle.rapid_endpoint.proofs.Listed.{all_in}
use Rattle.rapid_endpoint.proofs.process_list.ProcessList.ascends.Goals as goal

pub returns : goal.returns
returns c =
    c.ascend_in.ensures
    ∙ ap (ascend_from []) (ap (processes_in c.self.inside.count) c.as_slice.ensures.value ∙ all_in _ _ c.self.invariant ∙ c.self.view_is)
    ∙ ascend_is c.args.self.now c.tell.ensures
