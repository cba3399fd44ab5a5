use Rattle.std.proofs.Common.{◌≡◌, ◌++◌}
use Rattle.rapid_endpoint.specs.ProcessesLeft.{processes_left}
use Rattle.rapid_endpoint.proofs.process_list.ProcessList.to_vec.Given as goal

abbrev pub invariant-loop-process : goal.invariant-loop-process
invariant-loop-process l = l.processes.items ++ processes_left l.process-iterator ≡ l.self
