use Rattle.std.proofs.Common.{sym}
use Rattle.rapid_endpoint.specs.Joined.{endpoint_part}
use Rattle.rapid_endpoint.proofs.key.Key.endpoint.Goals as goal

pub returns : goal.returns
returns c =
    rw (← c.self.view_is)
    (sym (endpoint_part c.self.inside.id c.self.inside.endpoint c.self.invariant.0 c.self.invariant.1.length))
