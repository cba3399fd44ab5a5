use Rattle.std.proofs.Common.{sym, ap, subst}
use Rattle.rapid_node.specs.Steps.{event_of}
use Rattle.rapid_desk.specs.Desks.{Refused}
use Rattle.rapid_service.proofs.Handing.{tells_since}
use Rattle.rapid_service.proofs.service.Service.at_desk.Goals as goal

-- A journal that is begun anew leaves the node and who is subscribed.
pub returns-in-Ok-clause-told : goal.returns-in-Ok-clause-told
returns-in-Ok-clause-told g c = tells_since c.args.self.now.desk c.shorten.new.desk c.step.new.self c.shorten.ensures.node c.shorten.ensures.same.2 c.in-Ok.ensures.announced

-- Closing the desk changes its subscriptions alone.
pub returns-in-Err-clause-refused : goal.returns-in-Err-clause-refused
returns-in-Err-clause-refused g c =
    let before = c.shorten.new.desk.state in
    let refused = subst (λ s. Refused before (event_of c.args.event) s c.in-Err.error) (sym (ap (λ d. d.state) c.close.ensures.rest)) c.in-Err.ensures.refused in
    (before, c.in-Err.error, (c.shorten.ensures.node, c.shorten.ensures.published), refused, c.fault_of.ensures)
