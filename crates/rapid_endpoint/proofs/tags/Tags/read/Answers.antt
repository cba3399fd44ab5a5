use Rattle.std.proofs.Common.{◌-◌, ◌++◌, length, drop, sym, ap, subst, ◌∙◌, arith}
use Rattle.std.proofs.lemmas.List.{take-append-drop, length-take-le}
use Rattle.std.proofs.lemmas.Result.{err_from_is_err_and}
use Rattle.rapid_model.specs.Tags.{AreTags, tags_of}
use Rattle.rapid_endpoint.proofs.TagReading.{front_is, spelt_is_read, refused_is_not_spelt}
use Rattle.rapid_endpoint.proofs.tags.Tags.read.Goals as goal

pub overflow_sub-length : goal.overflow_sub-length
overflow_sub-length c = (front_is c.args.bytes.now c.in_ok-rest.rest.now c.in_ok-rest.ensures).0

pub spelt-requires : goal.spelt-requires
spelt-requires c = (front_is c.args.bytes.now c.in_ok-rest.rest.now c.in_ok-rest.ensures).1

pub returns-clause-read : goal.returns-clause-read
returns-clause-read c =
    let front = front_is c.args.bytes.now c.in_ok-rest.rest.now c.in_ok-rest.ensures in
    rw front.2 c.in_ok-rest.ensures

pub returns-clause-tags : goal.returns-clause-tags
returns-clause-tags c = subst (λ l. AreTags (tags_of l) l) (sym c.spelt.ensures) (front_is c.args.bytes.now c.in_ok-rest.rest.now c.in_ok-rest.ensures).1

pub returns-clause-spelt : goal.returns-clause-spelt
returns-clause-spelt c =
    let n = length c.args.bytes.now - length c.in_ok-rest.rest.now in
    let whole = sym (ap (λ l. l ++ drop n c.args.bytes.now) c.spelt.ensures ∙ take-append-drop n c.args.bytes.now) in
    let long = ap length c.spelt.ensures ∙ length-take-le n c.args.bytes.now (omega arith) in
    spelt_is_read c.args.bytes.now c.spelt.result n (returns-clause-tags c) whole long

pub returns-in_err-rest-clause-spelt : goal.returns-in_err-rest-clause-spelt
returns-in_err-rest-clause-spelt c =
    let p = err_from_is_err_and c.from_residual.result c.from_residual.ensures.1 in
    rw (p.1, p.2) (refused_is_not_spelt c.args.bytes.now c.in_err-rest.field-0.0 c.in_err-rest.ensures)
