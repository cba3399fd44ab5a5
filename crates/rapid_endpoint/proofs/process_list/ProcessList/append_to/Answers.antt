use Rattle.std.proofs.Common.{◌++◌, ap, ◌∙◌}
use Rattle.std.specs.List.{concat}
use Rattle.rapid_endpoint.proofs.Listed.{bytes_are}
use Rattle.rapid_endpoint.proofs.process_list.ProcessList.append_to.Goals as goal

pub returns-clause-value : goal.returns-clause-value
returns-clause-value c =
    c.in_ok-extend_from_slice.ensures.items
    ∙ ap (λ l. c.args.out.now.items ++ l) (c.as_slice.ensures.value ∙ bytes_are _ _ c.self.invariant ∙ ap concat c.self.view_is)
