use Rattle.std.proofs.Common.{sym, ◌∙◌}
use Rattle.rapid_endpoint.specs.Joined.{same_joined, and_then_second, and_else_first}
use Rattle.rapid_roster.proofs.head.HeadPartialEq.eq.Goals as goal

pub returns-then-eq : goal.returns-then-eq
returns-then-eq c =
    rw (← c.self.view_is, ← c.other.view_is)
    (c.eq-then-eq.ensures ∙ and_then_second c.eq.result _ _ c.eq.ensures c.if-eq.true
    ∙ sym
    (same_joined c.self.inside.id c.other.inside.id c.self.inside.endpoint c.other.inside.endpoint
    (c.self.invariant ∙ sym c.other.invariant)))

pub returns-else-eq : goal.returns-else-eq
returns-else-eq c =
    rw (← c.self.view_is, ← c.other.view_is)
    (and_else_first c.eq.result _ _ c.eq.ensures c.if-eq.false
    ∙ sym
    (same_joined c.self.inside.id c.other.inside.id c.self.inside.endpoint c.other.inside.endpoint
    (c.self.invariant ∙ sym c.other.invariant)))
