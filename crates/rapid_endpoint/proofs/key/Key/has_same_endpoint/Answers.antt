use Rattle.std.proofs.Common.{sym, ◌∙◌}
use Rattle.rapid_endpoint.specs.Joined.{endpoint_part}
use Rattle.rapid_model.specs.Process.{same_bytes}
use Rattle.rapid_endpoint.proofs.key.Key.has_same_endpoint.Goals as goal

pub returns : goal.returns
returns c =
    rw (← c.self.view_is, ← c.other.view_is)
    (c.eq.ensures
    ∙ sym
    (λ i. same_bytes
    (endpoint_part c.self.inside.id c.self.inside.endpoint c.self.invariant.0 c.self.invariant.1.length i)
    (endpoint_part c.other.inside.id c.other.inside.endpoint c.other.invariant.0 c.other.invariant.1.length i)))
