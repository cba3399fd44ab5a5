use Rattle.std.proofs.Common.{List, ℕ, ◌++◌, ap, sym}
use Rattle.rapid_endpoint.specs.Joined.{first_part, second_part}
use Rattle.rapid_endpoint.proofs.process_ref.ProcessRef.key.Goals as goal

pub returns-clause-front : goal.returns-clause-front
returns-clause-front c = rw (← c.self.view_is) (sym (first_part 22 c.self.inside.key c.self.inside.tags.now c.self.invariant.0))

pub returns-clause-whole : goal.returns-clause-whole
returns-clause-whole c =
    rw (← c.self.view_is) (ap (λ (t : List ℕ). c.self.inside.key ++ t) (sym (second_part 22 c.self.inside.key c.self.inside.tags.now c.self.invariant.0)))
