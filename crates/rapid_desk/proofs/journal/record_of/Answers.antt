use Rattle.std.proofs.Common.{◌∙◌, sym}
use Rattle.rapid_model.specs.Node.{configuration_of}
use Rattle.rapid_message.specs.Bodies.{body_of}
use Rattle.rapid_desk.proofs.Placing.{said_is, has_place}
use Rattle.rapid_desk.proofs.journal.record_of.Goals as goal

pub returns-in-Some-clause-value : goal.returns-in-Some-clause-value
returns-in-Some-clause-value c =
    let of = configuration_of c.args.entry.now in
    let place = sym c.place_in.ensures ∙ c.in-Some.is in
    said_is of c.args.message c.in-Some.which c.in-Some.place (body_of c.into_body.result) c.record_by_parts.result place c.into_body.ensures.value (c.record_by_parts.ensures.value of)

pub returns-in-Some-clause-whole : goal.returns-in-Some-clause-whole
returns-in-Some-clause-whole c =
    let place = sym c.place_in.ensures ∙ c.in-Some.is in
    c.record_by_parts.ensures.parts ∙ has_place (configuration_of c.args.entry.now) c.args.message c.in-Some.which c.in-Some.place place
