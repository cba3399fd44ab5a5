use Rattle.std.proofs.Common.{◌∙◌}
use Rattle.std.proofs.lemmas.Result.{err_from_is_err_and}
use Rattle.rapid_wire.specs.Kinds.{number_of}
use Rattle.rapid_wire.proofs.Spelt.{message_takes}
use Rattle.rapid_wire.proofs.Fronts.{unread}
use Rattle.rapid_wire.proofs.decoding.decode.Goals as goal

pub returns-in_err-message-clause-fault : goal.returns-in_err-message-clause-fault
returns-in_err-message-clause-fault c =
    let p = err_from_is_err_and c.from_residual-in_err-message.result c.from_residual-in_err-message.ensures.1 in
    rw (p.1, p.2) (unread c.args.whole.now (number_of c.in_ok-kind.kind) c.in_ok-kind.rest.now c.in_ok-kind.ensures.parts c.in_ok-kind.ensures.kind c.in_err-message.field-0.0 c.in_err-message.ensures)

pub returns-clause-spelt : goal.returns-clause-spelt
returns-clause-spelt c =
    c.in_ok-kind.ensures.parts ∙ message_takes (number_of c.in_ok-kind.kind) c.in_ok-kind.rest.now c.in_ok-message.message c.tell_bytes.ensures c.in_ok-message.ensures
