use Rattle.std.proofs.Common.{◌++◌, ◌∙◌, append_assoc, append-nil, ap, sym, map}
use Rattle.rapid_model.specs.World.{running_under, peer_at}
use Rattle.rapid_model.specs.StoredWorld.{world_of}
use Rattle.rapid_model.specs.SimText.{observes_on}
use Rattle.rapid_world.specs.Events.{event_of}
use Rattle.rapid_sim.specs.Losing.{losing_by, failing_where}
use Rattle.rapid_sim.proofs.Losing.{losing_more, losing_none}
use Rattle.rapid_sim.proofs.simulator.push_losing.Goals as goal

pub loop-ring-init : goal.loop-ring-init
loop-ring-init c =
    let before = map event_of c.args.events.now.items in
    sym (append-nil before) ∙ ap (λ xs. before ++ xs) (sym (losing_none (world_of c.args.world.now) c.args.id.now c.args.observer.now))

pub loop-ring-preserved : goal.loop-ring-preserved
loop-ring-preserved c =
    let w = world_of c.args.world.now in
    let before = map event_of c.args.events.now.items in
    let more = failing_where (observes_on c.args.id.now (peer_at w (running_under w c.args.observer.now)) c.loop-ring.ring) c.args.observer.now c.loop-ring.ring in
    c.in_ok-push_where_observed.ensures
    ∙ ap (λ xs. xs ++ more) c.loop-ring.invariant
    ∙ append_assoc before (losing_by w c.args.id.now c.loop-ring.ring c.args.observer.now) more
    ∙ ap (λ xs. before ++ xs) (losing_more w c.args.id.now c.args.observer.now c.loop-ring.ring)
