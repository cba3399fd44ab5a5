use Rattle.std.proofs.Common.{◌≡◌, ◌+◌, ◌<◌, length, take, flat_map}
use Rattle.rapid_world.specs.Framed.{frames_of}
use Rattle.rapid_world.proofs.sending.find_span.Given as goal

abbrev pub invariant-loop-output : goal.invariant-loop-output
invariant-loop-output l = (l.before ≡ l.first + length (flat_map (frames_of l.recipients) (take l.output-index l.outputs))) × (l.before < l.number)
