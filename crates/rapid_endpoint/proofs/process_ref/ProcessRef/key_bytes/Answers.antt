use Rattle.std.proofs.Common.{sym, ◌∙◌}
use Rattle.rapid_endpoint.specs.Joined.{first_part}
use Rattle.rapid_endpoint.proofs.process_ref.ProcessRef.key_bytes.Goals as goal

pub returns-clause-value : goal.returns-clause-value
returns-clause-value c =
    rw (← c.self.view_is)
    (c.bytes.ensures.value ∙ sym (first_part 22 c.self.inside.key c.self.inside.tags.now c.self.invariant.0))
