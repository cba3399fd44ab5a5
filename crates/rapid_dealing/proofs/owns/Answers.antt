use Rattle.std.proofs.Common.{sym}
use Rattle.rapid_dealing.proofs.Heaviest.{owns_is}
use Rattle.rapid_dealing.proofs.owns.Goals as goal

pub returns-in-Some : goal.returns-in-Some
returns-in-Some c = owns_is _ c.in-Some.owner c.args.process.now c.eq.result (sym c.in-Some.ensures.owner) c.eq.ensures
