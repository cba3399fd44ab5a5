use Rattle.std.proofs.Common.{◌∙◌}
use Rattle.std.specs.Cmp.Lexicographic.{texts_ties}
use Rattle.rapid_model.specs.Process.{same_bytes}
use Rattle.rapid_endpoint.proofs.tags.TagsPartialEq.eq.Goals as goal

pub returns-in_default : goal.returns-in_default
returns-in_default c =
    c.eq.ensures ∙ texts_ties c.as_bytes.result.now c.as_bytes-2.result.now
    ∙ (λ i. same_bytes (c.as_bytes.ensures i) (c.as_bytes-2.ensures i))
