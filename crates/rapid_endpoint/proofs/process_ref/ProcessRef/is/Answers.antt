use Rattle.std.proofs.Common.{sym, ◌∙◌}
use Rattle.rapid_endpoint.specs.Joined.{same_joined, and_then_second, and_else_first}
use Rattle.rapid_endpoint.proofs.process_ref.ProcessRef.is.Goals as goal

pub returns-then-eq : goal.returns-then-eq
returns-then-eq c =
    rw (← c.self.view_is, ← c.other.view_is)
    (c.are_same.ensures ∙ and_then_second c.eq.result _ _ c.eq.ensures c.if-eq.true
    ∙ sym
    (same_joined c.self.inside.key c.other.inside.key c.self.inside.tags.now c.other.inside.tags.now
    (c.self.invariant.0 ∙ sym c.other.invariant.0)))

pub returns-else-eq : goal.returns-else-eq
returns-else-eq c =
    rw (← c.self.view_is, ← c.other.view_is)
    (and_else_first c.eq.result _ _ c.eq.ensures c.if-eq.false
    ∙ sym
    (same_joined c.self.inside.key c.other.inside.key c.self.inside.tags.now c.other.inside.tags.now
    (c.self.invariant.0 ∙ sym c.other.invariant.0)))
