use Rattle.std.proofs.Common.{not, refl, ap, ◌∙◌}
use mir.Val.{bool_byte}
use Rattle.rapid_model.specs.Edge.{Edge, failures, next_window}
use Rattle.rapid_monitor.proofs.Windows.{failures_next}
use Rattle.rapid_monitor.proofs.edge.Edge.failures_after.Goals as goal

pub overflow_sub-result : goal.overflow_sub-result
overflow_sub-result c =
    (failures_next (not c.args.ok) c.self.inside.window.items refl c.self.invariant.1 c.self.invariant.2 c.from.ensures (c.from-2.ensures ∙ ap bool_byte c.unwrap_or-oldest_failed.ensures) (c.copied.ensures ∙ c.get.ensures)).0

pub returns : goal.returns
returns c =
    (failures_next (not c.args.ok) c.self.inside.window.items refl c.self.invariant.1 c.self.invariant.2 c.from.ensures (c.from-2.ensures ∙ ap bool_byte c.unwrap_or-oldest_failed.ensures) (c.copied.ensures ∙ c.get.ensures)).1
    ∙ ap (λ (e : Edge). failures (next_window e.window c.args.ok)) c.self.view_is
