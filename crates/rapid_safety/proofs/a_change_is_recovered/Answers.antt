use Rattle.rapid_safety.specs.Examples.{two, recovered_run}
use Rattle.rapid_safety.proofs.Founders.{params_fit, founders_fit}
use Rattle.rapid_safety.proofs.Whole.{runs_hold}
use Rattle.rapid_safety.proofs.RecoveryRun.{recovers_apart, not_chosen_fast, all_take, never_told}
use Rattle.rapid_safety.proofs.a_change_is_recovered.Goals as goal

pub returns-clause-apart : goal.returns-clause-apart
returns-clause-apart c = recovers_apart

pub returns-clause-not_fast : goal.returns-clause-not_fast
returns-clause-not_fast c = not_chosen_fast

pub returns-clause-heard : goal.returns-clause-heard
returns-clause-heard c = all_take

pub returns-clause-untold : goal.returns-clause-untold
returns-clause-untold c = never_told

pub returns-clause-holds : goal.returns-clause-holds
returns-clause-holds c = runs_hold two recovered_run params_fit founders_fit recovers_apart
