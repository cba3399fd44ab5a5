use Rattle.rapid_safety.proofs.Implied.{cuts_asked, heights_rise}
use Rattle.rapid_safety.proofs.more_follows.Goals as goal

pub returns-clause-asks : goal.returns-clause-asks
returns-clause-asks c = cuts_asked

pub returns-clause-rises : goal.returns-clause-rises
returns-clause-rises c = heights_rise
