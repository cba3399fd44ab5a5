use Rattle.std.proofs.Common.{sym}
use Rattle.rapid_endpoint.specs.Joined.{second_part}
use Rattle.rapid_endpoint.proofs.process.Process.tags.Goals as goal

pub returns : goal.returns
returns c = rw (← c.self.view_is) (sym (second_part 22 c.self.inside.key c.self.inside.tags c.self.invariant.0))
