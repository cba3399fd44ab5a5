use Rattle.rapid_agreement.proofs.Examples.{free_allowed, free_kept, all_apart_differ, none_is_forced, free_chosen}
use Rattle.rapid_agreement.proofs.recovery_chooses_freely.Goals as goal

pub returns-clause-allowed : goal.returns-clause-allowed
returns-clause-allowed c = free_allowed

pub returns-clause-kept : goal.returns-clause-kept
returns-clause-kept c = free_kept

pub returns-clause-several : goal.returns-clause-several
returns-clause-several c = all_apart_differ

pub returns-clause-none_forced : goal.returns-clause-none_forced
returns-clause-none_forced c = none_is_forced

pub returns-clause-chosen : goal.returns-clause-chosen
returns-clause-chosen c = free_chosen
