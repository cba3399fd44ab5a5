use Rattle.rapid_agreement.proofs.Examples.{without_votes_allowed, without_votes_kept, without_votes_chosen}
use Rattle.rapid_agreement.proofs.recovery_takes_a_proposal.Goals as goal

pub returns-clause-allowed : goal.returns-clause-allowed
returns-clause-allowed c = without_votes_allowed

pub returns-clause-kept : goal.returns-clause-kept
returns-clause-kept c = without_votes_kept

pub returns-clause-chosen : goal.returns-clause-chosen
returns-clause-chosen c = without_votes_chosen
