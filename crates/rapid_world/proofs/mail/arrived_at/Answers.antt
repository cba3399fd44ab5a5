use Rattle.std.proofs.Common.{ap, subst, sym, ◌∙◌, Some}
use Rattle.rapid_node.specs.Steps.{event_of}
use Rattle.rapid_world.specs.Arrivals.{Brings}
use Rattle.rapid_world.specs.Sent.{all_packets}
use Rattle.rapid_world.proofs.Mails.{all_read, read_there}
use Rattle.rapid_world.proofs.mail.arrived_at.Goals as goal

pub returns-in-Ok : goal.returns-in-Ok
returns-in-Ok c =
    let t = c.in_ok-place.ensures.found in
    let same = read_there c.args.sendings.now c.in_ok-place.place t.sent c.index-sendings-place.result t.at c.index-sendings-place.is in
    all_read c.args.sendings.now c.requires.numbered.0 c.args.number c.in_ok-place.place c.index-sendings-place.result c.in_ok-first.first c.in_ok-first.end _
    c.requires.numbered.1 (t.at ∙ ap Some (sym same)) c.in_ok-first.ensures
    (subst (λ v. Brings (all_packets c.args.sendings.now) c.args.number (event_of v)) (sym c.in-Ok.ensures) c.requires.read)
