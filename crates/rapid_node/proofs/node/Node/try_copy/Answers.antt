use Rattle.std.proofs.Common.{sym, subst}
use Rattle.std.specs.Arc.{arc_value}
use Rattle.rapid_model.specs.Process.{Process}
use Rattle.rapid_node.specs.declared.past.Past.{Past}
use Rattle.rapid_node.specs.Phases.{IsState}
use Rattle.rapid_node.proofs.node.Node.try_copy.Goals as goal

pub invariant_of-result : goal.invariant_of-result
invariant_of-result c =
    subst (λ (m : Process). IsState m (arc_value c.in_ok-past.past).shown c.in_ok-state.state) (sym c.in_ok-me.ensures)
    (subst (λ (p : Past). IsState c.self.inside.me p.shown c.in_ok-state.state) (sym c.in_ok-past.ensures)
    (c.in_ok-state.ensures.state c.self.inside.me (arc_value c.self.inside.past).shown c.self.invariant))
