-- The statuses of the program.
use Rattle.std.specs.Prelude.{ℕ, Result, Ok, Err}
use Rattle.rapid_text.specs.declared.fault.RunFault.{RunFault}
use Rattle.rapid_text.specs.declared.fault.RunFault.TheVariants.{Read, Write, OutOfMemory}

-- The status of a run over an input: 0 at its end, 1 if standard input or output failed, 3 if out of memory.
abbrev pub run_status : Result (Unit {0}) RunFault → ℕ
run_status (Ok x) = 0
run_status (Err Read) = 1
run_status (Err Write) = 1
run_status (Err OutOfMemory) = 3
