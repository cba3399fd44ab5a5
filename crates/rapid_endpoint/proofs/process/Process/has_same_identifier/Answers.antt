use Rattle.std.proofs.Common.{sym, ◌∙◌}
use Rattle.rapid_model.specs.Process.{same_bytes}
use Rattle.rapid_endpoint.proofs.Keys.{identifier_is}
use Rattle.rapid_endpoint.proofs.process.Process.has_same_identifier.Goals as goal

pub returns : goal.returns
returns c =
    rw (← c.self.view_is, ← c.other.view_is)
    (c.has_same_identifier.ensures
    ∙ sym
    (λ i. same_bytes (identifier_is c.self.inside.key c.self.inside.tags c.self.invariant.0 i)
    (identifier_is c.other.inside.key c.other.inside.tags c.other.invariant.0 i)))
