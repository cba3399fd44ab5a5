use Rattle.std.proofs.Common.{ap, sym, subst, ◌∙◌}
use Rattle.rapid_desk.specs.Desks.{DeskValue}
use Rattle.rapid_node.specs.Phases.{name_of}
use Rattle.rapid_service.specs.Entering.{Views, installed_by}
use Rattle.rapid_service.specs.Filters.{TickedOrFresh}
use Rattle.rapid_service.specs.Noting.{NotesRemoval, NotesQuestion, asking_after}
use Rattle.rapid_service.proofs.Filtering.{ticked_after}
use Rattle.rapid_service.proofs.Noting.{removal_in}
use Rattle.rapid_service.proofs.service.Service.tick.Goals as goal

-- The tick is counted in the view that is present after its step.
pub returns-clause-filter : goal.returns-clause-filter
returns-clause-filter g c =
    let lines = c.args.self.now.lines.items in
    let old = c.args.self.now.present in
    let same = ap (λ (w : Views). w.lines) c.note_question.ensures.views ∙ ap (λ (w : Views). w.lines) c.count_tick.ensures.views in
    subst (λ p. TickedOrFresh lines old c.note_question.new.self.lines.items p) (sym c.note_question.ensures.rest.3)
    (subst (λ more. TickedOrFresh lines old more c.count_tick.new.self.present) (sym same)
    (ticked_after lines c.step.new.self.lines.items old c.step.new.self.present c.count_tick.new.self.present c.in_ok-step.ensures.filter c.count_tick.ensures.ticked))

-- The step and the question to come add their notes, one after the other.
pub returns-clause-notes : goal.returns-clause-notes
returns-clause-notes g c =
    let old = c.args.self.now in
    let step = c.step.new.self in
    let counted = c.count_tick.new.self in
    let end = c.note_question.new.self in
    let waited = old.notes.waiting.items in
    let between = step.notes.waiting.items in
    let desk = c.note_question.ensures.desk ∙ c.count_tick.ensures.desk in
    let phase = name_of step.desk.state.node.phase in
    let removal =
    subst (λ (d : DeskValue). NotesRemoval (name_of d.state.node.phase) end.present waited between) (sym desk)
    (subst (λ p. NotesRemoval phase p waited between) (sym c.note_question.ensures.rest.3)
    (removal_in phase step.present counted.present waited between c.count_tick.ensures.ticked c.step.ensures.notes)) in
    let asked =
    c.count_tick.ensures.rest.2 ∙ c.in_ok-step.ensures.asked
    ∙ ap (λ (d : DeskValue). asking_after (installed_by old.desk.state.node d.state.node) old.asking) (sym desk) in
    let question =
    subst (λ a. NotesQuestion a between end.notes.waiting.items) asked
    (subst (λ n. NotesQuestion counted.asking n end.notes.waiting.items) c.count_tick.ensures.notes c.note_question.ensures.notes) in
    (between, removal, question)
