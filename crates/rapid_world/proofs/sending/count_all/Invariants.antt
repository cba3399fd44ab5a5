use Rattle.std.proofs.Common.{◌≡◌, length, take, flat_map}
use Rattle.rapid_world.specs.Framed.{frames_of}
use Rattle.rapid_world.proofs.sending.count_all.Given as goal

abbrev pub invariant-loop-output : goal.invariant-loop-output
invariant-loop-output l = l.count ≡ length (flat_map (frames_of l.recipients) (take l.output-index l.outputs))
