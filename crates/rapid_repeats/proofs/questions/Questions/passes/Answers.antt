use Rattle.std.proofs.Common.{◌≡◌, ℕ, true, Contains, subst}
use Rattle.rapid_model.specs.Process.{Process}
use Rattle.rapid_repeats.specs.Repeating.{IsTimely}
use Rattle.rapid_repeats.specs.Parts.{asked_in}
use Rattle.rapid_repeats.proofs.questions.Questions.passes.Goals as goal

pub returns-then-was_asked-clause-dropped : goal.returns-then-was_asked-clause-dropped
returns-then-was_asked-clause-dropped c here e =
    subst (λ (p : Process). (t : ℕ) × Contains c.args.self.now ((p, c.args.asked), t) × IsTimely (asked_in here c.args.asked) t c.args.now) c.get.ensures (c.was_asked.ensures.before here c.if-was_asked.true)
