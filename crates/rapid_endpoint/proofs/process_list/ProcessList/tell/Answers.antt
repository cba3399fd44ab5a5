use Rattle.std.proofs.Common.{subst, ◌<◌, All}
use Rattle.rapid_model.specs.Process.{IsProcess}
use Rattle.rapid_endpoint.proofs.Listed.{are_processes}
use Rattle.rapid_endpoint.proofs.process_list.ProcessList.tell.Goals as goal

pub returns : goal.returns
returns c =
    subst (All IsProcess) c.self.view_is
    (are_processes _ _ c.self.invariant (subst (All (λ b. b < 256)) c.as_slice.ensures.value c.tell.ensures))
