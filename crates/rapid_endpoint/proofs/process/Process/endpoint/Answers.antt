use Rattle.std.proofs.Common.{sym, ◌∙◌}
use Rattle.rapid_endpoint.proofs.Keys.{endpoint_is}
use Rattle.rapid_endpoint.proofs.process.Process.endpoint.Goals as goal

pub returns : goal.returns
returns c = rw (← c.self.view_is) (c.endpoint.ensures ∙ sym (endpoint_is c.self.inside.key c.self.inside.tags c.self.invariant.0))
