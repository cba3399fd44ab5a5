use Rattle.std.proofs.Common.{◌≡◌, ◌*◌, ◌≤◌, length, take}
use Rattle.std.specs.List.{concat}
use Rattle.rapid_wire.proofs.lengths.processes_length.Given as goal

abbrev pub invariant-loop-process : goal.invariant-loop-process
invariant-loop-process l = (l.bytes ≡ length (concat (take l.process-index l.processes))) × (l.bytes ≤ 543 * l.process-index)
