use Rattle.std.proofs.Common.{subst, ◌∙◌}
use Rattle.rapid_repeats.specs.Askers.{questions_in}
use Rattle.rapid_repeats.specs.Parts.{Adds}
use Rattle.rapid_repeats.proofs.Tables.{keys_exact, adds_entry, adds_none}
use Rattle.rapid_repeats.proofs.Askers.{same_questions, places_stay, adds_question, places_more}
use Rattle.rapid_repeats.proofs.questions.Questions.keep.Goals as goal

pub invariant_of-self : goal.invariant_of-self
invariant_of-self c =
    let s = c.self.inside in
    let adds = adds_entry _ keys_exact s.times.entries c.keep.new.table.entries ((c.in-Some.place, c.args.asked), c.args.now) c.keep.ensures.kept in
    places_more s.askers c.place_for.new.askers s.times.entries c.keep.new.table.entries c.in-Some.place c.args.sender.now c.args.asked c.args.now c.in-Some.ensures.stays c.self.invariant c.in-Some.ensures.place adds

pub returns-in-Some-clause-kept : goal.returns-in-Some-clause-kept
returns-in-Some-clause-kept c =
    let s = c.self.inside in
    let adds = adds_entry _ keys_exact s.times.entries c.keep.new.table.entries ((c.in-Some.place, c.args.asked), c.args.now) c.keep.ensures.kept in
    subst (λ qs. Adds qs ((c.args.sender.now, c.args.asked), c.args.now) (questions_in c.place_for.new.askers c.keep.new.table.entries)) c.self.view_is
    (adds_question s.askers c.place_for.new.askers s.times.entries c.keep.new.table.entries c.in-Some.place c.args.sender.now c.args.asked c.args.now c.in-Some.ensures.stays c.self.invariant c.in-Some.ensures.place adds)

pub returns-in_default-clause-kept : goal.returns-in_default-clause-kept
returns-in_default-clause-kept c =
    let s = c.self.inside in
    adds_none c.args.self.now ((c.args.sender.now, c.args.asked), c.args.now) _ (same_questions s.askers c.place_for.new.askers s.times.entries c.in_default.ensures.stays c.self.invariant ∙ c.self.view_is)
