use Rattle.std.proofs.Common.{ap, subst, sym, ◌∙◌}
use Rattle.rapid_model.specs.Node as node
use Rattle.rapid_model.specs.StoredWorld.{event_refusal}
use Rattle.rapid_model.specs.World.{WorldEvent}
use Rattle.rapid_world.specs.Does.{Hands}
use Rattle.rapid_world.proofs.Cases.{leave_hands, leave_refused}
use Rattle.rapid_world.proofs.world.World.leave.Goals as goal

pub hand-requires : goal.hand-requires
hand-requires c =
    subst (λ (e : WorldEvent). Hands c.args.self.now e c.in-Some.place node.Leave) (sym c.requires.is)
    (leave_hands c.args.self.now c.args.id c.in-Some.place c.tell.ensures.members c.requires.open (sym c.in-Some.ensures))

pub returns-in-None-clause-refused : goal.returns-in-None-clause-refused
returns-in-None-clause-refused c = ap (event_refusal c.args.self.now) c.requires.is ∙ leave_refused c.args.self.now c.args.id c.requires.open (sym c.in-None.ensures)
