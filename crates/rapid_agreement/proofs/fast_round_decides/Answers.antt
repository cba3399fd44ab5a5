use Rattle.rapid_agreement.proofs.Examples.{fast_allowed, fast_kept, fast_chosen}
use Rattle.rapid_agreement.proofs.fast_round_decides.Goals as goal

pub returns-clause-allowed : goal.returns-clause-allowed
returns-clause-allowed c = fast_allowed

pub returns-clause-kept : goal.returns-clause-kept
returns-clause-kept c = fast_kept

pub returns-clause-chosen : goal.returns-clause-chosen
returns-clause-chosen c = fast_chosen
