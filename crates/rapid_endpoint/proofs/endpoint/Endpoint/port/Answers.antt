use Rattle.std.proofs.Common.{List, ℕ, sym, ◌∙◌, ap, drop}
use Rattle.std.specs.Int.{w16, from_be_bytes}
use Rattle.rapid_endpoint.specs.Joined.{port_returns}
use Rattle.rapid_endpoint.proofs.endpoint.Endpoint.port.Goals as goal

pub returns : goal.returns
returns c =
    sym
    (ap (λ (v : List ℕ). from_be_bytes w16 (drop 4 v)) (sym c.self.view_is)
    ∙ port_returns c.self.inside.address c.self.inside.port c.self.invariant.0 c.self.invariant.2)
