use Rattle.std.proofs.Common.{ap, length, sym, ◌∙◌}
use Rattle.std.proofs.lemmas.Option.{IfSome_then}
use Rattle.std.specs.Arc.{arc_value}
use Rattle.rapid_node.specs.Steps.{event_of}
use Rattle.rapid_world.specs.Sent.{Mailbox, all_packets}
use Rattle.rapid_world.proofs.Mails.{numbered, posted, still_read}
use Rattle.rapid_world.proofs.mail.Mail.post.Goals as goal

pub invariant_of-self : goal.invariant_of-self
invariant_of-self c =
    let before = c.self.inside.sendings.items in
    let next = c.requires.next ∙ ap length (sym (ap (λ (m : Mailbox). m.packets) c.self.view_is)) in
    let kept = IfSome_then c.self.inside.arrived c.self.invariant.1 (λ a h. still_read (all_packets before) c.args.sending.packets a.first a.end (event_of (arc_value a.event)) h) in
    rw c.push_within.ensures (rw c.end-self-inside.ensures (rw (posted before c.args.sending) (numbered before c.self.inside.sent c.args.sending c.self.invariant.0 next, kept)))
