use Rattle.std.proofs.Common.{refl, sym, ap, subst}
use Rattle.rapid_model.specs.Node.{EdgeDown}
use Rattle.rapid_desk.specs.Desks.{Refused}
use Rattle.rapid_service.proofs.service.Service.refuse_edge.Goals as goal

-- Closing the desk changes its subscriptions alone.
pub returns-clause-refused : goal.returns-clause-refused
returns-clause-refused g c = λ id ring subject.
    let before = c.args.self.now.desk.state in
    let error = c.refuse_edge-error.result in
    let refused = subst (λ s. Refused before (EdgeDown id ring subject) s error) (sym (ap (λ d. d.state) c.close.ensures.rest)) (c.refuse_edge-error.ensures.refused id ring subject) in
    (before, error, (refl, refl), refused, c.fault_of.ensures)
