use Rattle.std.proofs.Common.{◌≡◌, take, true}
use Rattle.rapid_text.specs.Endings.{has_no_end}
use Rattle.rapid_text.proofs.stream.split_line.Given as goal

abbrev pub invariant-loop-i : goal.invariant-loop-i
invariant-loop-i l = has_no_end (take l.i l.bytes) ≡ true
