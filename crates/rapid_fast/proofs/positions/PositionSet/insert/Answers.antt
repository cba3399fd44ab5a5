use Rattle.std.proofs.Common.{◌+◌, ap, sym, ◌∙◌}
use Rattle.std.specs.FinSet as set
use Rattle.rapid_fast.proofs.BitSets.{positions_of-with_bit, insert-known, len-insert-new}
use Rattle.rapid_fast.proofs.positions.PositionSet.insert.Goals as goal

pub returns-then-contains : goal.returns-then-contains
returns-then-contains c = insert-known c.args.self.now c.args.position (sym c.contains.ensures.value ∙ c.if-contains.true)

pub invariant_of-self : goal.invariant_of-self
invariant_of-self c =
    let new = ap (λ s. set.contains s c.args.position) c.self.view_is ∙ sym c.contains.ensures.value ∙ c.if-contains.false in
    ap (λ n. n + 1) c.self.invariant ∙ sym (ap set.len (positions_of-with_bit c.self.inside.words c.args.position c.requires c.self.told) ∙ len-insert-new _ c.args.position new)

pub returns : goal.returns
returns c = positions_of-with_bit c.self.inside.words c.args.position c.requires c.self.told ∙ ap (λ s. set.insert s c.args.position) c.self.view_is
