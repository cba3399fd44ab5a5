use Rattle.rapid_model.specs.Node.{member_in}
use Rattle.rapid_model.specs.Packets.{other_members}
use Rattle.rapid_world.proofs.Framing.{have_frames}
use Rattle.rapid_world.proofs.taken.sending_of.Goals as goal

pub returns-in-Some-clause-framed : goal.returns-in-Some-clause-framed
returns-in-Some-clause-framed c = have_frames (other_members (member_in c.args.node.now) c.args.node.now.me) c.args.outputs.now c.in_ok-framed.ensures.framed
