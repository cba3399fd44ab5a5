-- Whether a node goes on, and why it ends.
use Rattle.std.specs.Prelude.{Bool, true, false, Option, None}
use Rattle.rapid_signals.specs.declared.ending.State.{State}
use Rattle.rapid_signals.specs.declared.ending.State.TheVariants.{Running, Ending}
use Rattle.rapid_signals.specs.declared.fault.RunningFault.{RunningFault}

-- After it was ended by a fault or as it was told to: the first that ended it says why.
abbrev pub ended_by : State → Option RunningFault → State
ended_by Running fault = Ending fault
ended_by (Ending first) fault = Ending first

-- It ends.
abbrev pub has_ended : State → Bool
has_ended Running = false
has_ended (Ending fault) = true

-- The fault by which it ends, if any.
abbrev pub fault_in : State → Option RunningFault
fault_in Running = None
fault_in (Ending fault) = fault
