use Rattle.std.proofs.Common.{ap, ◌∙◌}
use Rattle.rapid_line.proofs.ends.Source.compare.Goals as goal

pub invariant_of-self : goal.invariant_of-self
invariant_of-self g c =
    let e = c.hear.ensures in
    ((e.queue.0.0 ∙ ap (λ q. q.table.shared.table_id) c.deref.ensures, e.queue.0.1), ap (λ v. v.puts) e.view ∙ c.self.invariant.1, ap (λ v. v.takes) e.view ∙ c.self.invariant.2)
