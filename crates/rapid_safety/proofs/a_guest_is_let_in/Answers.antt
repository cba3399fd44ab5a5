use Rattle.rapid_safety.specs.Examples.{two, guest_run}
use Rattle.rapid_safety.proofs.Founders.{params_fit, founders_fit}
use Rattle.rapid_safety.proofs.Whole.{runs_hold}
use Rattle.rapid_safety.proofs.GuestRun.{joins_apart}
use Rattle.rapid_safety.proofs.a_guest_is_let_in.Goals as goal

pub returns-clause-apart : goal.returns-clause-apart
returns-clause-apart c = joins_apart

pub returns-clause-holds : goal.returns-clause-holds
returns-clause-holds c = runs_hold two guest_run params_fit founders_fit joins_apart
