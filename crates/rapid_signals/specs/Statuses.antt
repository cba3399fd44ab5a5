-- Clauses of public calls cite this file.
-- The status that the program ends with.
use Rattle.std.specs.Prelude.{ℕ}
use Rattle.rapid_signals.specs.declared.fault.RunningFault.{RunningFault}
use Rattle.rapid_signals.specs.declared.fault.RunningFault.TheVariants.{Read, Write, NoPort, NoIdentifier, OutOfMemory, JournalFull, Halted}

-- The status that a node ends with: 1 if its input, output or port failed, 3 if the service cannot go on.
abbrev pub status_of : RunningFault → ℕ
status_of Read = 1
status_of Write = 1
status_of NoPort = 1
status_of NoIdentifier = 3
status_of OutOfMemory = 3
status_of JournalFull = 3
status_of Halted = 3
