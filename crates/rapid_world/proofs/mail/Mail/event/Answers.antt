use Rattle.std.proofs.Common.{subst, sym}
use Rattle.std.proofs.lemmas.Option.{IfSome_then}
use Rattle.std.specs.Prelude.{IfSome}
use Rattle.std.specs.Arc.{arc_value}
use Rattle.rapid_model.specs.Node.{Event}
use Rattle.rapid_node.specs.Steps.{event_of}
use Rattle.rapid_world.specs.Arrivals.{AreRead, Brings}
use Rattle.rapid_world.specs.Sent.{Mailbox, all_packets}
use Rattle.rapid_world.proofs.mail.Mail.event.Goals as goal

pub returns-in-Some : goal.returns-in-Some
returns-in-Some c =
    let all = all_packets c.self.inside.sendings.items in
    let kept = subst (λ o. IfSome o (λ a. AreRead all a.first a.end (event_of (arc_value a.event)))) c.in-Some.is c.self.invariant.1 in
    subst (λ (m : Mailbox). IfSome c.of.result (λ e. Brings m.packets c.args.number (event_of (arc_value e.now)))) c.self.view_is
    (IfSome_then c.of.result c.of.ensures (λ e h. subst (λ (x : Event). Brings all c.args.number x) (sym h.0) (kept.read c.args.number h.1 h.2)))
