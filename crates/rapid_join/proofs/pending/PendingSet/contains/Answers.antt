use Rattle.std.proofs.Common.{ap, sym, ◌∙◌}
use Rattle.std.specs.FinSet as set
use Rattle.rapid_model.proofs.Orders.{processes_total}
use Rattle.rapid_join.proofs.pending.PendingSet.contains.Goals as goal

pub returns : goal.returns
returns c =
    c.contains.ensures
    ∙ sym (set.contains-from_list processes_total c.self.inside.joiners.keys c.args.joiner.now)
    ∙ ap (λ s. set.contains s c.args.joiner.now) c.self.view_is
