use Rattle.std.proofs.Common.{◌∙◌, sym}
use Rattle.rapid_model.specs.Node.{configuration_of}
use Rattle.rapid_message.specs.Bodies.{body_of}
use Rattle.rapid_desk.proofs.Placing.{request_is}
use Rattle.rapid_desk.proofs.journal.record_without_place.Goals as goal

pub returns-in_ok-sender-in-Some-clause-value : goal.returns-in_ok-sender-in-Some-clause-value
returns-in_ok-sender-in-Some-clause-value c =
    let of = configuration_of c.args.entry.now in
    let asked = sym c.ring_asked.ensures ∙ c.in-Some.is in
    request_is of c.args.message c.in_ok-sender-in-Some.sender.value (body_of c.body.result.now) c.in-Some.which c.in-Some.ring c.in_ok-sender-in-Some.ensures c.body.ensures.value asked
