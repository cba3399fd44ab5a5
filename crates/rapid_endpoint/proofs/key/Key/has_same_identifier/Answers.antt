use Rattle.std.proofs.Common.{sym, ◌∙◌}
use Rattle.rapid_endpoint.specs.Joined.{first_part}
use Rattle.rapid_model.specs.Process.{same_bytes}
use Rattle.rapid_endpoint.proofs.key.Key.has_same_identifier.Goals as goal

pub returns : goal.returns
returns c =
    rw (← c.self.view_is, ← c.other.view_is)
    (c.eq.ensures
    ∙ sym
    (λ i. same_bytes (first_part 16 c.self.inside.id c.self.inside.endpoint c.self.invariant.0 i)
    (first_part 16 c.other.inside.id c.other.inside.endpoint c.other.invariant.0 i)))
