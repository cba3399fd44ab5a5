use Rattle.std.proofs.Common.{length, ap, length-append, arith}
use Rattle.rapid_endpoint.proofs.Keys.{tags_fit}
use Rattle.rapid_endpoint.proofs.process_ref.ProcessRef.length.Goals as goal

pub returns-clause-value : goal.returns-clause-value
returns-clause-value c =
    let all = length-append c.self.inside.key c.self.inside.tags.now in
    let whole = ap length c.self.view_is in
    omega (arith, all, whole, c.self.invariant.0)

pub returns-clause-least : goal.returns-clause-least
returns-clause-least c =
    let fit = (tags_fit c.self.inside.key c.self.inside.tags.now c.self.invariant.0 c.self.invariant.1).0 in
    omega (arith, fit)

pub returns-clause-most : goal.returns-clause-most
returns-clause-most c =
    let fit = (tags_fit c.self.inside.key c.self.inside.tags.now c.self.invariant.0 c.self.invariant.1).1 in
    omega (arith, fit)
