use Rattle.std.proofs.Common.{◌≡◌, List, length, ap, ◌∙◌}
use Rattle.rapid_model.specs.World as model
use Rattle.rapid_model.specs.World.{MarkedEvent}
use Rattle.rapid_model.specs.StoredWorld.{StoredWorld, unmarked, with_event}
use Rattle.rapid_world.specs.Stored.{Store}
use Rattle.rapid_world.proofs.Storing.{start_says, start_stored}
use Rattle.rapid_world.proofs.stored.Stored.push_start.Goals as goal

pub invariant_of-self : goal.invariant_of-self
invariant_of-self c =
    let place : c.len-start.result ≡ length c.self.inside.starts.items = c.len-start.ensures ∙ c.self.inside.starts.ok.0 in
    rw (c.push_within.ensures, c.push_within-2.ensures, place)
    (start_stored c.self.inside.founding.members c.self.inside.starts.items c.self.inside.events.items (record { process = c.args.process; seed = c.args.seed }) c.self.invariant)

pub returns : goal.returns
returns c =
    let place : c.len-start.result ≡ length c.self.inside.starts.items = c.len-start.ensures ∙ c.self.inside.starts.ok.0 in
    rw (c.push_within.ensures, c.push_within-2.ensures, place)
    (ap (λ (ms : List MarkedEvent). let s : StoredWorld = record { founding = c.self.inside.founding; events = ms } in s)
    (start_says c.self.inside.founding.members c.self.inside.starts.items c.self.inside.events.items (record { process = c.args.process; seed = c.args.seed }) c.self.invariant)
    ∙ ap (λ (s : Store). with_event s.world (unmarked (model.Start c.args.process c.args.seed))) c.self.view_is)
