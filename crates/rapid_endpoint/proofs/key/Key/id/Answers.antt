use Rattle.std.proofs.Common.{sym}
use Rattle.rapid_endpoint.specs.Joined.{first_part}
use Rattle.rapid_endpoint.proofs.key.Key.id.Goals as goal

pub returns : goal.returns
returns c = rw (← c.self.view_is) (sym (first_part 16 c.self.inside.id c.self.inside.endpoint c.self.invariant.0))
