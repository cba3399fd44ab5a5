use Rattle.std.proofs.Common.{ap, ◌∙◌}
use Rattle.std.specs.FinSet as set
use Rattle.rapid_rings.proofs.Sets.{insert_seen}
use Rattle.rapid_join.proofs.pending.PendingSet.insert.Goals as goal

pub returns-clause-ok : goal.returns-clause-ok
returns-clause-ok c =
    insert_seen c.self.inside.joiners.keys c.insert.new.self.keys c.args.joiner (λ q. c.in_ok-insert.ensures.updates.0 q)
    ∙ ap (λ s. set.insert s c.args.joiner) c.self.view_is
