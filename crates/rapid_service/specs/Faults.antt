-- Clauses of public calls cite this file.
-- Why a node ends.
use Rattle.rapid_node.specs.declared.fault.NodeFault.TheVariants as step
use Rattle.rapid_desk.specs.declared.error.DeskError.{DeskError}
use Rattle.rapid_desk.specs.declared.error.DeskError.TheVariants as desk
use Rattle.rapid_signals.specs.declared.fault.RunningFault.{RunningFault}
use Rattle.rapid_signals.specs.declared.fault.RunningFault.TheVariants.{OutOfMemory, JournalFull, Halted}

-- What an error of the desk means to a node.
abbrev pub fault_of : DeskError → RunningFault
fault_of desk.JournalFull = JournalFull
fault_of desk.OutOfMemory = OutOfMemory
fault_of (desk.Node step.OutOfMemory) = OutOfMemory
fault_of (desk.Node step.Halted) = Halted
fault_of (desk.Node step.HistoryFull) = Halted
fault_of desk.TooManySubscribers = Halted
fault_of desk.BadCapacity = Halted
fault_of desk.Unpublished = Halted
