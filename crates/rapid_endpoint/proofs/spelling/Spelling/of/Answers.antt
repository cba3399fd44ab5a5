use Rattle.rapid_endpoint.proofs.Rooms.{room_of}
use Rattle.rapid_endpoint.proofs.spelling.Spelling.of.Goals as goal

pub invariant_of-result : goal.invariant_of-result
invariant_of-result c = rw c.copy_from_slice.ensures.after (room_of c.args.bytes.now c.requires)
