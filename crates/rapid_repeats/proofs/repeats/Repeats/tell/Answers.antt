use Rattle.std.proofs.Common.{subst}
use Rattle.rapid_repeats.specs.Remembering.{IsFilter}
use Rattle.rapid_repeats.proofs.repeats.Repeats.tell.Goals as goal

pub returns : goal.returns
returns c = subst IsFilter c.self.view_is c.self.invariant.0
