use Rattle.std.proofs.Common.{ap, ◌∙◌}
use Rattle.std.specs.FinSet as set
use Rattle.rapid_sim.proofs.Settling.{insert_seen}
use Rattle.rapid_sim.proofs.settled.NumberSet.insert.Goals as goal

pub returns-clause-ok : goal.returns-clause-ok
returns-clause-ok c =
    insert_seen c.self.inside.numbers.keys c.insert.new.self.keys c.args.number (λ q. c.in_ok-insert.ensures.updates.0 q)
    ∙ ap (λ s. set.insert s c.args.number) c.self.view_is
