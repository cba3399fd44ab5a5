use Rattle.std.proofs.Common.{ap, ◌∙◌}
use Rattle.std.specs.List.{concat}
use Rattle.rapid_model.specs.Process.{bytes_cmp}
use Rattle.rapid_model.proofs.CutOrder.{cmp-concat}
use Rattle.rapid_endpoint.proofs.Listed.{bytes_are}
use Rattle.rapid_endpoint.proofs.process_list.ProcessList.compare.Goals as goal

pub returns : goal.returns
returns c =
    let mine = c.as_slice.ensures.value ∙ bytes_are _ _ c.self.invariant ∙ ap concat c.self.view_is in
    let others = c.as_slice-2.ensures.value ∙ bytes_are _ _ c.other.invariant ∙ ap concat c.other.view_is in
    c.cmp.ensures ∙ (λ i. bytes_cmp (mine i) (others i))
    ∙ cmp-concat c.args.self.now c.args.other.now c.tell.ensures c.tell-2.ensures c.requires
