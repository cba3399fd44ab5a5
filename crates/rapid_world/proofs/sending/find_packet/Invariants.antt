use Rattle.std.proofs.Common.{◌≡◌, drop, flat_map, slice_get}
use Rattle.rapid_world.specs.Framed.{frames_of}
use Rattle.rapid_world.proofs.sending.find_packet.Given as goal

abbrev pub invariant-loop-output : goal.invariant-loop-output
invariant-loop-output l = slice_get (flat_map (frames_of l.recipients) (drop l.output-index l.outputs)) l.rest ≡ slice_get (flat_map (frames_of l.recipients) l.outputs) l.place
