use Rattle.rapid_agreement.proofs.Examples.{forced_allowed, forced_kept, two_and_one_differ, seven_is_forced, forced_chosen}
use Rattle.rapid_agreement.proofs.recovery_takes_the_forced_value.Goals as goal

pub returns-clause-allowed : goal.returns-clause-allowed
returns-clause-allowed c = forced_allowed

pub returns-clause-kept : goal.returns-clause-kept
returns-clause-kept c = forced_kept

pub returns-clause-several : goal.returns-clause-several
returns-clause-several c = two_and_one_differ

pub returns-clause-forced : goal.returns-clause-forced
returns-clause-forced c = seven_is_forced

pub returns-clause-chosen : goal.returns-clause-chosen
returns-clause-chosen c = forced_chosen
