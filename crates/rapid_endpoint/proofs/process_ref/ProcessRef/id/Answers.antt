use Rattle.std.proofs.Common.{sym, ◌∙◌}
use Rattle.rapid_endpoint.proofs.Keys.{identifier_is}
use Rattle.rapid_endpoint.proofs.process_ref.ProcessRef.id.Goals as goal

pub returns : goal.returns
returns c = rw (← c.self.view_is) (c.id.ensures ∙ sym (identifier_is c.self.inside.key c.self.inside.tags.now c.self.invariant.0))
