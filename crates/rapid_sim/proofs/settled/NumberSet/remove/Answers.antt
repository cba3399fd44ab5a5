use Rattle.std.proofs.Common.{ap, ◌∙◌}
use Rattle.std.specs.FinSet as set
use Rattle.rapid_sim.proofs.Settling.{remove_seen}
use Rattle.rapid_sim.proofs.settled.NumberSet.remove.Goals as goal

pub returns : goal.returns
returns c =
    remove_seen c.self.inside.numbers.keys c.remove.new.self.keys c.args.number (λ q. c.remove.ensures.updates.0 q)
    ∙ ap (λ s. set.remove s c.args.number) c.self.view_is
