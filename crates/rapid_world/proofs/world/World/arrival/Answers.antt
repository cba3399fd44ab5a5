use Rattle.std.proofs.Common.{ap, sym, subst, ◌∙◌}
use Rattle.rapid_model.specs.Node.{Event}
use Rattle.rapid_model.specs.StoredWorld.{world_of}
use Rattle.rapid_model.specs.World as model
use Rattle.rapid_world.specs.Does.{Hands}
use Rattle.rapid_world.proofs.Cases.{deliver_hands, deliver_refused, receiver_refused}
use Rattle.rapid_world.proofs.Framing.{packet_there, packet_not_there, brings_message}
use Rattle.rapid_world.proofs.world.World.arrival.Goals as goal

pub read-requires : goal.read-requires
read-requires c = (_, c.in-Some.ensures)

pub returns-in-Ok-clause-hands : goal.returns-in-Ok-clause-hands
returns-in-Ok-clause-hands c =
    let t = packet_there _ _ _ c.in-Some.ensures in
    subst (λ (e : Event). Hands c.args.self.now (model.Deliver c.args.number) c.in-Some-running_at.place e) (sym (brings_message (world_of c.args.self.now) c.args.number t.0 _ c.in-Ok.ensures t.1 t.3.0))
    (deliver_hands c.args.self.now c.args.number t.0 c.in-Some-running_at.place c.tell.ensures.members c.requires t.1 (ap (model.running_at (world_of c.args.self.now)) (sym t.2) ∙ sym c.in-Some-running_at.ensures))

pub returns-in-Err-clause-refused : goal.returns-in-Err-clause-refused
returns-in-Err-clause-refused c =
    let t = packet_there _ _ _ c.in-Some.ensures in
    (deliver_hands c.args.self.now c.args.number t.0 c.in-Some-running_at.place c.tell.ensures.members c.requires t.1 (ap (model.running_at (world_of c.args.self.now)) (sym t.2) ∙ sym c.in-Some-running_at.ensures)).does.not_refused

pub returns-in-None-running_at-clause-refused : goal.returns-in-None-running_at-clause-refused
returns-in-None-running_at-clause-refused c =
    let t = packet_there _ _ _ c.in-Some.ensures in
    receiver_refused c.args.self.now c.args.number t.0 c.requires t.1 (ap (model.running_at (world_of c.args.self.now)) (sym t.2) ∙ sym c.in-None-running_at.ensures)

pub returns-in-None-clause-refused : goal.returns-in-None-clause-refused
returns-in-None-clause-refused c = deliver_refused c.args.self.now c.args.number c.requires (packet_not_there _ c.in-None.ensures)
