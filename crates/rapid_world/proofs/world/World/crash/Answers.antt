use Rattle.std.proofs.Common.{ap, subst, sym, ◌∙◌}
use Rattle.rapid_model.specs.StoredWorld.{event_refusal}
use Rattle.rapid_model.specs.World.{Peer, WorldEvent}
use Rattle.rapid_world.specs.Does.{Does}
use Rattle.rapid_world.specs.Handed.{crash_of}
use Rattle.rapid_world.proofs.Cases.{crash_does, crash_refused}
use Rattle.rapid_world.proofs.world.World.crash.Goals as goal

pub crash_at-requires : goal.crash_at-requires
crash_at-requires c =
    subst (λ (e : WorldEvent). (p : Peer) × Does c.args.self.now e c.in-Some.place p (crash_of p)) (sym c.requires.is)
    (crash_does c.args.self.now c.args.id c.in-Some.place c.requires.open (sym c.in-Some.ensures))

pub returns-in-Err-clause-refused : goal.returns-in-Err-clause-refused
returns-in-Err-clause-refused c =
    ap (event_refusal c.args.self.now) c.requires.is ∙ (crash_does c.args.self.now c.args.id c.in-Some.place c.requires.open (sym c.in-Some.ensures)).1.not_refused

pub returns-in-None-clause-refused : goal.returns-in-None-clause-refused
returns-in-None-clause-refused c = ap (event_refusal c.args.self.now) c.requires.is ∙ crash_refused c.args.self.now c.args.id c.requires.open (sym c.in-None.ensures)
