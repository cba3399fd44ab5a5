use Rattle.rapid_endpoint.specs.Joined.{cmp_endpoints}
use Rattle.rapid_endpoint.proofs.endpoint.EndpointOrd.cmp.Goals as goal

pub returns : goal.returns
returns c =
    rw (← c.self.view_is, ← c.other.view_is)
    (cc
    (cmp_endpoints c.self.inside.address c.other.inside.address c.self.inside.port c.other.inside.port c.self.invariant.0
    c.other.invariant.0 c.self.invariant.2 c.other.invariant.2))
