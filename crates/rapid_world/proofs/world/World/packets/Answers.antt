use Rattle.std.proofs.Common.{length, ap, ◌∙◌}
use Rattle.std.proofs.lemmas.List.{length-map}
use Rattle.rapid_model.specs.StoredWorld.{world_of}
use Rattle.rapid_world.specs.Framed.{framed_packet}
use Rattle.rapid_world.proofs.world.World.packets.Goals as goal

pub returns : goal.returns
returns c = c.sent.ensures ∙ ap length c.mail.ensures.packets ∙ length-map (world_of c.args.self.now).packets framed_packet
