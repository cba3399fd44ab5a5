use Rattle.std.proofs.Common.{◌≡◌, ◌-◌}
use Rattle.rapid_wire.specs.Reading.{many, process_at}
use Rattle.rapid_wire.proofs.Loops.{with_front}
use Rattle.rapid_wire.proofs.reading.read_processes.Given as goal

abbrev pub invariant-loop : goal.invariant-loop
invariant-loop l = with_front l.processes.items (many (l.count - l.counter) process_at l.rest) ≡ many l.count process_at l.bytes
