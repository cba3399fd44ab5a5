use Rattle.std.proofs.Common.{sym, ◌∙◌}
use Rattle.rapid_endpoint.specs.Joined.{same_endpoints, and_then_second, and_else_first}
use Rattle.rapid_endpoint.proofs.endpoint.EndpointPartialEq.eq.Goals as goal

pub returns-then-eq : goal.returns-then-eq
returns-then-eq c =
    rw (← c.self.view_is, ← c.other.view_is)
    (and_then_second c.eq.result _ _ c.eq.ensures c.if-eq.true
    ∙ sym
    (same_endpoints c.self.inside.address c.other.inside.address c.self.inside.port c.other.inside.port c.self.invariant.0
    c.other.invariant.0 c.self.invariant.2 c.other.invariant.2))

pub returns-else-eq : goal.returns-else-eq
returns-else-eq c =
    rw (← c.self.view_is, ← c.other.view_is)
    (and_else_first c.eq.result _ _ c.eq.ensures c.if-eq.false
    ∙ sym
    (same_endpoints c.self.inside.address c.other.inside.address c.self.inside.port c.other.inside.port c.self.invariant.0
    c.other.invariant.0 c.self.invariant.2 c.other.invariant.2))
