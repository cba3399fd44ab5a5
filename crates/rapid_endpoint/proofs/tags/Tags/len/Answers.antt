use Rattle.std.proofs.Common.{ℕ, List, length, get_or, ◌∙◌, ap, arith}
use Rattle.rapid_endpoint.proofs.tags.Tags.len.Goals as goal

pub bounds-as_bytes-0 : goal.bounds-as_bytes-0
bounds-as_bytes-0 c = omega (arith, ap length (c.as_bytes.ensures ∙ c.tell.ensures.spelt))

pub returns : goal.returns
returns c = c.from.ensures ∙ ap (λ (l : List ℕ). get_or l 0 0) (c.as_bytes.ensures ∙ c.tell.ensures.spelt)
