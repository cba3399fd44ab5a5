use Rattle.std.proofs.Common.{◌≡◌, ◌-◌, ◌+◌, suc, subst, arith}
use Rattle.rapid_sim.specs.Wants.{FlowPrints}
use Rattle.rapid_sim.specs.Progress.{GoesOn}
use Rattle.rapid_sim.specs.Simulators.{simulation_of}
use Rattle.rapid_sim.proofs.Progress.{goes_first, flow_more, flow_done, flow_end, has_flowed, has_ended}
use Rattle.rapid_sim.proofs.simulator.Simulator.flow.Goals as goal

pub loop-done-init : goal.loop-done-init
loop-done-init c = goes_first (FlowPrints 10000 (simulation_of c.args.self.now)) c.args.output.now.items c.args.self.now.met

pub returns-then-not-branch : goal.returns-then-not-branch
returns-then-not-branch c =
    let n = 10000 - (c.loop-done._done + 1) in
    let left : 10000 - c.loop-done._done ≡ suc n = omega arith in
    let all = FlowPrints 10000 (simulation_of c.args.self.now) in
    let i = subst (λ m. GoesOn all (FlowPrints m (simulation_of c.loop-done.self)) c.args.output.now.items c.loop-done.output.items c.args.self.now.met c.loop-done.self.met) left c.loop-done.invariant in
    flow_done all (simulation_of c.loop-done.self) (simulation_of c.flow_once.new.self) n c.args.output.now.items c.loop-done.output.items c.flow_once.new.output.items
    c.args.self.now.met c.loop-done.self.met c.flow_once.new.self.met i
    (has_ended _ _ _ _ _ _ c.in_ok-flow_once.field-0 c.if-not-branch.true c.in_ok-flow_once.ensures n)

pub loop-done-preserved : goal.loop-done-preserved
loop-done-preserved c =
    let n = 10000 - (c.loop-done._done + 1) in
    let left : 10000 - c.loop-done._done ≡ suc n = omega arith in
    let all = FlowPrints 10000 (simulation_of c.args.self.now) in
    let i = subst (λ m. GoesOn all (FlowPrints m (simulation_of c.loop-done.self)) c.args.output.now.items c.loop-done.output.items c.args.self.now.met c.loop-done.self.met) left c.loop-done.invariant in
    flow_more all (simulation_of c.loop-done.self) (simulation_of c.flow_once.new.self) n c.args.output.now.items c.loop-done.output.items c.flow_once.new.output.items
    c.args.self.now.met c.loop-done.self.met c.flow_once.new.self.met i
    (has_flowed _ _ _ _ _ _ c.in_ok-flow_once.field-0 c.if-not-branch.false c.in_ok-flow_once.ensures n)

pub returns : goal.returns
returns c =
    let left : 10000 - c.loop-done._done ≡ 0 = omega arith in
    let all = FlowPrints 10000 (simulation_of c.args.self.now) in
    flow_end all (simulation_of c.loop-done.self) c.args.output.now.items c.loop-done.output.items c.args.self.now.met c.loop-done.self.met
    (subst (λ m. GoesOn all (FlowPrints m (simulation_of c.loop-done.self)) c.args.output.now.items c.loop-done.output.items c.args.self.now.met c.loop-done.self.met) left c.loop-done.invariant)
