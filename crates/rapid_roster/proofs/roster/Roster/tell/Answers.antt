use Rattle.std.proofs.Common.{subst}
use Rattle.rapid_roster.specs.Once.{StandOnce}
use Rattle.rapid_roster.proofs.roster.Roster.tell.Goals as goal

pub returns : goal.returns
returns c = subst StandOnce c.self.view_is c.self.invariant.distinct
