use Rattle.std.proofs.Common.{ap, sym, subst, ◌∙◌}
use Rattle.std.specs.Arc.{arc_value}
use Rattle.rapid_model.specs.Node.{Node, Member, Event}
use Rattle.rapid_node.specs.Phases.{phase_of}
use Rattle.rapid_node.specs.Quiet.{IsQuiet}
use Rattle.rapid_node.specs.Steps.{event_of}
use Rattle.rapid_node.proofs.Quiet.{edge_down_is_quiet, tick_is_quiet, removed_is_quiet, halted_is_quiet, message_is_quiet}
use Rattle.rapid_node.proofs.node.Node.is_quiet.Goals as goal

pub returns-in-EdgeDown : goal.returns-in-EdgeDown
returns-in-EdgeDown c = λ t.
    subst (λ (e : Event). IsQuiet c.args.self.now e) (sym (ap event_of c.in-EdgeDown.is)) (edge_down_is_quiet c.args.self.now c.in-EdgeDown.field-0 c.in-EdgeDown.field-1 c.in-EdgeDown.field-2)

pub returns-in-Member : goal.returns-in-Member
returns-in-Member c = λ t.
    let phase = sym (ap (λ (n : Node). n.phase) c.self.view_is) ∙ ap (phase_of (arc_value c.self.inside.past).shown) c.in-Member.is ∙ ap Member (sym c.deref.ensures) in
    subst (λ (e : Event). IsQuiet c.args.self.now e) (sym (ap event_of c.in-Tick.is)) (tick_is_quiet c.args.self.now c.deref.result.now phase (c.has_quiet_tick.ensures t))

pub returns-in-Removed : goal.returns-in-Removed
returns-in-Removed c = λ t.
    let phase = sym (ap (λ (n : Node). n.phase) c.self.view_is) ∙ ap (phase_of (arc_value c.self.inside.past).shown) c.in-Removed.is in
    subst (λ (e : Event). IsQuiet c.args.self.now e) (sym (ap event_of c.in-Tick.is)) (removed_is_quiet c.args.self.now c.in-Removed.field-0 phase)

pub returns-in-Halted : goal.returns-in-Halted
returns-in-Halted c = λ t.
    let phase = sym (ap (λ (n : Node). n.phase) c.self.view_is) ∙ ap (phase_of (arc_value c.self.inside.past).shown) c.in-Halted.is in
    subst (λ (e : Event). IsQuiet c.args.self.now e) (sym (ap event_of c.in-Tick.is)) (halted_is_quiet c.args.self.now (arc_value c.self.inside.past).shown phase)

pub returns-in-Member-state : goal.returns-in-Member-state
returns-in-Member-state c = λ t.
    let phase = sym (ap (λ (n : Node). n.phase) c.self.view_is) ∙ ap (phase_of (arc_value c.self.inside.past).shown) c.in-Member-state.is ∙ ap Member (sym c.deref-in-Member-state.ensures) in
    subst (λ (e : Event). IsQuiet c.args.self.now e) (sym (ap event_of c.in-Receive.is)) (message_is_quiet c.args.self.now c.deref-in-Member-state.result.now c.in-Receive.message phase (c.is_quiet_at.ensures t))
