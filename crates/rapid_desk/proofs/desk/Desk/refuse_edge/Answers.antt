use Rattle.std.proofs.Common.{[], subst}
use Rattle.rapid_model.specs.Node.{EdgeDown}
use Rattle.rapid_desk.specs.Desks.{DeskValue, Refused, state_with}
use Rattle.rapid_desk.proofs.Settling.{after_refusal}
use Rattle.rapid_desk.proofs.desk.Desk.refuse_edge.Goals as goal

pub invariant_of-self : goal.invariant_of-self
invariant_of-self g c = (
  (after_refusal c.refuse_edge.result c.self.inside.held c.refuse_edge.new.self c.self.inside.board.published (EdgeDown [] 0 []) (c.refuse_edge.ensures.refused [] 0 []) c.refuse_edge.ensures.same c.self.invariant.0).0,
  c.self.invariant.1,
)

pub returns-clause-refused : goal.returns-clause-refused
returns-clause-refused g c = λ id ring subject.
    subst (λ (v : DeskValue). Refused v.state (EdgeDown id ring subject) (state_with c.refuse_edge.new.self c.self.inside.board.published) c.refuse_edge.result) c.self.view_is
    (after_refusal c.refuse_edge.result c.self.inside.held c.refuse_edge.new.self c.self.inside.board.published (EdgeDown id ring subject) (c.refuse_edge.ensures.refused id ring subject) c.refuse_edge.ensures.same c.self.invariant.0).1
