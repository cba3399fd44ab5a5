use Rattle.std.proofs.Common.{List, map, subst, sym}
use Rattle.std.proofs.lemmas.Result.{IfOk-weaker}
use Rattle.std.specs.Arc.{arc_value}
use Rattle.rapid_model.specs.StoredWorld.{world_of}
use Rattle.rapid_node.specs.Steps.{event_of as taken_of}
use Rattle.rapid_world.specs.Arrivals.{Brings}
use Rattle.rapid_world.specs.Framed.{FramedPacket, framed_packet}
use Rattle.rapid_world.proofs.Framing.{brings_read}
use Rattle.rapid_world.proofs.world.World.read.Goals as goal

pub returns-in-Some : goal.returns-in-Some
returns-in-Some c =
    let kept = subst (λ (l : List FramedPacket). Brings l c.args.number (taken_of (arc_value c.in-Some.event.now))) c.mail.ensures.packets c.in-Some.ensures in
    IfOk-weaker c.try_clone.result _ _ (λ e same. subst (λ v. Brings (map framed_packet (world_of c.args.self.now).packets) c.args.number (taken_of v)) (sym same) kept) c.try_clone.ensures

pub returns-in-None : goal.returns-in-None
returns-in-None c =
    IfOk-weaker c.read_event.result _ _ (λ e reads. brings_read (world_of c.args.self.now) c.args.number c.requires.0 c.args.frame.now (taken_of (arc_value e)) c.requires.1 reads) c.read_event.ensures
