use Rattle.std.proofs.Common.{sym, ◌∙◌}
use Rattle.rapid_model.specs.Process.{same_bytes}
use Rattle.rapid_endpoint.proofs.Keys.{endpoint_is}
use Rattle.rapid_endpoint.proofs.process.Process.has_same_endpoint.Goals as goal

pub returns : goal.returns
returns c =
    rw (← c.self.view_is, ← c.other.view_is)
    (c.has_same_endpoint.ensures
    ∙ sym
    (λ i. same_bytes (endpoint_is c.self.inside.key c.self.inside.tags c.self.invariant.0 i)
    (endpoint_is c.other.inside.key c.other.inside.tags c.other.invariant.0 i)))
