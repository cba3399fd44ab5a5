use Rattle.std.proofs.Common.{List}
use Rattle.rapid_model.specs.Process.{Process}
use Rattle.rapid_endpoint.proofs.Walking.{Walked}
use Rattle.rapid_endpoint.proofs.process_walk.end_in.Given as goal

abbrev pub invariant-loop : goal.invariant-loop
invariant-loop l = (qs : List Process) × Walked l.count 0 l.counter l.at l.bytes qs
