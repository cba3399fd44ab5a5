use Rattle.std.proofs.Common.{ap, ◌∙◌}
use Rattle.rapid_line.proofs.ends.Source.take.Goals as goal

pub invariant_of-self : goal.invariant_of-self
invariant_of-self g c =
    let e = c.pop.ensures in
    ((e.queue.0 ∙ ap (λ q. q.table.shared.table_id) c.deref.ensures, e.queue.1), e.same.0 ∙ c.self.invariant.1, e.same.1 ∙ c.self.invariant.2)
