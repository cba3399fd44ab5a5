use Rattle.std.proofs.Common.{ap, refl, sym, subst, ◌∙◌}
use Rattle.std.specs.Prelude.{List, map}
use Rattle.rapid_model.specs.StoredWorld.{StoredWorld, world_of}
use Rattle.std.specs.Arc.{arc_value}
use Rattle.rapid_node.specs.Steps.{event_of}
use Rattle.rapid_world.specs.Arrivals.{Brings}
use Rattle.rapid_world.specs.Framed.{FramedPacket, framed_packet}
use Rattle.rapid_world.specs.Sent.{Mailbox}
use Rattle.rapid_world.proofs.Giving.{kept_run}
use Rattle.rapid_world.proofs.world.World.keep.Goals as goal

pub keep-requires : goal.keep-requires
keep-requires c = subst (λ (l : List FramedPacket). Brings l c.args.number (event_of (arc_value c.args.event.now))) (sym (c.self.invariant.packets ∙ ap (λ (s : StoredWorld). map framed_packet (world_of s).packets) c.self.view_is)) c.requires

pub invariant_of-self : goal.invariant_of-self
invariant_of-self c = kept_run _ _ _ _ _ _ c.self.invariant refl refl (ap (λ (m : Mailbox). m.packets) c.keep.ensures)
