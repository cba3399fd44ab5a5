use Rattle.std.proofs.Common.{ap, ◌∙◌}
use Rattle.std.specs.FinMap as map
use Rattle.rapid_model.proofs.Orders.{processes_total, processes_exact}
use Rattle.rapid_rings.proofs.Sets.{map_insert_seen}
use Rattle.rapid_member.proofs.ages.Ages.insert.Goals as goal

pub returns-clause-ok : goal.returns-clause-ok
returns-clause-ok c =
    map_insert_seen processes_total processes_exact c.self.inside.ages.entries c.insert.new.self.entries c.args.process c.args.age (λ q. c.in_ok-insert.ensures.updates.0 q)
    ∙ ap (λ m. map.insert m c.args.process c.args.age) c.self.view_is
