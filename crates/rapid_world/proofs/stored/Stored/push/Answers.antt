use Rattle.std.proofs.Common.{◌≡◌, List, ap, sym, subst, slice_get, ◌∙◌}
use Rattle.rapid_model.specs.Process.{Process}
use Rattle.rapid_world.specs.Events.{event_of}
use Rattle.rapid_world.specs.Stored.{Names, Store, started_in, who_of}
use Rattle.rapid_world.proofs.Storing.{event_stored, who_is}
use Rattle.rapid_world.proofs.stored.Stored.push.Goals as goal

pub invariant_of-self : goal.invariant_of-self
invariant_of-self c =
    let fs = c.self.inside.founding.members in
    let ss = c.self.inside.starts.items in
    let who : started_in c.args.self.now.world ≡ who_of fs ss = sym (ap (λ (s : Store). started_in s.world) c.self.view_is) ∙ who_is c.self.inside.founding ss c.self.inside.events.items c.self.invariant in
    let names : Names (slice_get (who_of fs ss) c.args.place) (event_of c.args.event.now) = subst (λ (ps : List Process). Names (slice_get ps c.args.place) (event_of c.args.event.now)) who c.requires.names in
    rw c.push_within.ensures
    (event_stored fs ss c.self.inside.events.items c.placed.result _ (record { event = event_of c.args.event.now; halts = c.args.halts }) c.self.invariant names (c.placed.ensures fs ss names))
