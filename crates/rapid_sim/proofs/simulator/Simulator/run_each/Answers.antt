use Rattle.std.proofs.Common.{◌+◌, subst, map, drop, arith}
use Rattle.rapid_world.specs.Events.{event_of}
use Rattle.rapid_sim.specs.Wants.{EventsPrint}
use Rattle.rapid_sim.specs.Progress.{GoesOn}
use Rattle.rapid_sim.specs.Simulators.{simulation_of}
use Rattle.rapid_sim.proofs.Progress.{goes_first, events_taken, events_stopped, events_end, was_taken, was_stopped, drop_event, drop_none}
use Rattle.rapid_sim.proofs.simulator.Simulator.run_each.Goals as goal

pub loop-event-init : goal.loop-event-init
loop-event-init c = goes_first (EventsPrint (simulation_of c.args.self.now) (map event_of c.args.events.now)) c.args.output.now.items c.args.self.now.met

pub returns-then-not-branch : goal.returns-then-not-branch
returns-then-not-branch c =
    let all = EventsPrint (simulation_of c.args.self.now) (map event_of c.args.events.now) in
    let i = subst (λ es. GoesOn all (EventsPrint (simulation_of c.loop-event.self) es) c.args.output.now.items c.loop-event.output.items c.args.self.now.met c.loop-event.self.met)
    (drop_event event_of c.args.events.now c.loop-event.event-index c.event-item.result (omega arith) c.event-item.is) c.loop-event.invariant in
    events_stopped all (simulation_of c.loop-event.self) (simulation_of c.step.new.self) (event_of c.event-item.result) (map event_of (drop (c.loop-event.event-index + 1) c.args.events.now)) c.args.output.now.items c.loop-event.output.items c.step.new.output.items
    c.args.self.now.met c.loop-event.self.met c.step.new.self.met i
    (was_stopped _ _ _ _ _ _ _ c.in_ok-step.field-0 c.if-not-branch.true c.in_ok-step.ensures)

pub loop-event-preserved : goal.loop-event-preserved
loop-event-preserved c =
    let all = EventsPrint (simulation_of c.args.self.now) (map event_of c.args.events.now) in
    let i = subst (λ es. GoesOn all (EventsPrint (simulation_of c.loop-event.self) es) c.args.output.now.items c.loop-event.output.items c.args.self.now.met c.loop-event.self.met)
    (drop_event event_of c.args.events.now c.loop-event.event-index c.event-item.result (omega arith) c.event-item.is) c.loop-event.invariant in
    events_taken all (simulation_of c.loop-event.self) (simulation_of c.step.new.self) (event_of c.event-item.result) (map event_of (drop (c.loop-event.event-index + 1) c.args.events.now)) c.args.output.now.items c.loop-event.output.items c.step.new.output.items
    c.args.self.now.met c.loop-event.self.met c.step.new.self.met i
    (was_taken _ _ _ _ _ _ _ c.in_ok-step.field-0 c.if-not-branch.false c.in_ok-step.ensures)

pub returns : goal.returns
returns c =
    let all = EventsPrint (simulation_of c.args.self.now) (map event_of c.args.events.now) in
    events_end all (simulation_of c.loop-event.self) c.args.output.now.items c.loop-event.output.items c.args.self.now.met c.loop-event.self.met
    (subst (λ es. GoesOn all (EventsPrint (simulation_of c.loop-event.self) es) c.args.output.now.items c.loop-event.output.items c.args.self.now.met c.loop-event.self.met)
    (drop_none event_of c.args.events.now c.loop-event.event-index (omega arith)) c.loop-event.invariant)
