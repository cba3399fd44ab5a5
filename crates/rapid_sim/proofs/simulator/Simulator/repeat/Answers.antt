use Rattle.std.proofs.Common.{◌≡◌, ◌-◌, ◌+◌, suc, subst, replicate, arith}
use Rattle.rapid_world.specs.Events.{event_of}
use Rattle.rapid_sim.specs.Wants.{EventsPrint}
use Rattle.rapid_sim.specs.Progress.{GoesOn}
use Rattle.rapid_sim.specs.Simulators.{simulation_of}
use Rattle.rapid_sim.proofs.Progress.{goes_first, events_taken, events_stopped, events_end, was_taken, was_stopped}
use Rattle.rapid_sim.proofs.simulator.Simulator.repeat.Goals as goal

pub loop-done-init : goal.loop-done-init
loop-done-init c =
    let e : c.args.count ≡ c.args.count - 0 = omega arith in
    let all = EventsPrint (simulation_of c.args.self.now) (replicate c.args.count (event_of c.args.event.now)) in
    subst (λ n. GoesOn all (EventsPrint (simulation_of c.args.self.now) (replicate n (event_of c.args.event.now))) c.args.output.now.items c.args.output.now.items c.args.self.now.met c.args.self.now.met) e
    (goes_first all c.args.output.now.items c.args.self.now.met)

pub returns-then-not-branch : goal.returns-then-not-branch
returns-then-not-branch c =
    let e = event_of c.args.event.now in
    let left : c.args.count - c.loop-done._done ≡ suc (c.args.count - (c.loop-done._done + 1)) = omega arith in
    let all = EventsPrint (simulation_of c.args.self.now) (replicate c.args.count e) in
    let i = subst (λ n. GoesOn all (EventsPrint (simulation_of c.loop-done.self) (replicate n e)) c.args.output.now.items c.loop-done.output.items c.args.self.now.met c.loop-done.self.met) left c.loop-done.invariant in
    events_stopped all (simulation_of c.loop-done.self) (simulation_of c.step.new.self) e (replicate (c.args.count - (c.loop-done._done + 1)) e) c.args.output.now.items c.loop-done.output.items c.step.new.output.items
    c.args.self.now.met c.loop-done.self.met c.step.new.self.met i
    (was_stopped _ _ _ _ _ _ _ c.in_ok-step.field-0 c.if-not-branch.true c.in_ok-step.ensures)

pub loop-done-preserved : goal.loop-done-preserved
loop-done-preserved c =
    let e = event_of c.args.event.now in
    let left : c.args.count - c.loop-done._done ≡ suc (c.args.count - (c.loop-done._done + 1)) = omega arith in
    let all = EventsPrint (simulation_of c.args.self.now) (replicate c.args.count e) in
    let i = subst (λ n. GoesOn all (EventsPrint (simulation_of c.loop-done.self) (replicate n e)) c.args.output.now.items c.loop-done.output.items c.args.self.now.met c.loop-done.self.met) left c.loop-done.invariant in
    events_taken all (simulation_of c.loop-done.self) (simulation_of c.step.new.self) e (replicate (c.args.count - (c.loop-done._done + 1)) e) c.args.output.now.items c.loop-done.output.items c.step.new.output.items
    c.args.self.now.met c.loop-done.self.met c.step.new.self.met i
    (was_taken _ _ _ _ _ _ _ c.in_ok-step.field-0 c.if-not-branch.false c.in_ok-step.ensures)

pub returns : goal.returns
returns c =
    let e = event_of c.args.event.now in
    let left : c.args.count - c.loop-done._done ≡ 0 = omega arith in
    let all = EventsPrint (simulation_of c.args.self.now) (replicate c.args.count e) in
    events_end all (simulation_of c.loop-done.self) c.args.output.now.items c.loop-done.output.items c.args.self.now.met c.loop-done.self.met
    (subst (λ n. GoesOn all (EventsPrint (simulation_of c.loop-done.self) (replicate n e)) c.args.output.now.items c.loop-done.output.items c.args.self.now.met c.loop-done.self.met) left c.loop-done.invariant)
