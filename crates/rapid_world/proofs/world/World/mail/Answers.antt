use Rattle.std.proofs.Common.{ap, subst, ◌∙◌}
use Rattle.std.specs.Prelude.{map, All}
use Rattle.rapid_model.specs.StoredWorld.{StoredWorld, world_of}
use Rattle.rapid_world.specs.Framed.{framed_packet, HasFrame}
use Rattle.rapid_world.proofs.world.World.mail.Goals as goal

pub returns-clause-packets : goal.returns-clause-packets
returns-clause-packets c = c.self.invariant.packets ∙ ap (λ (s : StoredWorld). map framed_packet (world_of s).packets) c.self.view_is

pub returns-clause-framed : goal.returns-clause-framed
returns-clause-framed c = subst (λ (s : StoredWorld). All HasFrame (world_of s).packets) c.self.view_is c.self.invariant.framed
