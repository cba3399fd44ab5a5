use Rattle.std.proofs.Common.{length, ap, ◌∙◌}
use Rattle.std.specs.List.{concat}
use Rattle.rapid_endpoint.proofs.Listed.{bytes_are}
use Rattle.rapid_endpoint.proofs.process_list.ProcessList.bytes_len.Goals as goal

pub returns : goal.returns
returns c = c.len.ensures ∙ ap length (bytes_are _ _ c.self.invariant) ∙ ap (λ v. length (concat v)) c.self.view_is
