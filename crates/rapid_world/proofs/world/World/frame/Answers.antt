use Rattle.rapid_model.specs.StoredWorld.{world_of}
use Rattle.rapid_world.proofs.Framing.{frame_of_packet}
use Rattle.rapid_world.proofs.world.World.frame.Goals as goal

pub returns : goal.returns
returns c = frame_of_packet _ _ (world_of c.args.self.now) _ c.args.packet _ c.mail.ensures.packets c.mail.ensures.framed c.packet.ensures
