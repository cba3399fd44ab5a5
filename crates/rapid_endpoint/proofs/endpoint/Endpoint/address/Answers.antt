use Rattle.std.proofs.Common.{sym, ◌∙◌, ap, take}
use Rattle.std.specs.Int.{w16, to_be_bytes}
use Rattle.rapid_endpoint.specs.Joined.{first_part}
use Rattle.rapid_endpoint.proofs.endpoint.Endpoint.address.Goals as goal

pub returns : goal.returns
returns c =
    c.bytes.ensures.value
    ∙ sym (ap (take 4) (sym c.self.view_is) ∙ first_part 4 c.self.inside.address (to_be_bytes w16 c.self.inside.port) c.self.invariant.0)
