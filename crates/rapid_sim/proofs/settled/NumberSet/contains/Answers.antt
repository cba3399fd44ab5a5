use Rattle.std.proofs.Common.{ap, sym, ◌∙◌}
use Rattle.std.proofs.lemmas.Cmp.{nat_cmp_total}
use Rattle.std.specs.FinSet as set
use Rattle.rapid_sim.proofs.settled.NumberSet.contains.Goals as goal

pub returns : goal.returns
returns c =
    c.contains.ensures
    ∙ sym (set.contains-from_list nat_cmp_total c.self.inside.numbers.keys c.args.number)
    ∙ ap (λ s. set.contains s c.args.number) c.self.view_is
