use Rattle.std.proofs.Common.{ap, ◌∙◌, sym}
use Rattle.rapid_model.specs.Process.{same_bytes}
use Rattle.rapid_rings.proofs.Following.{at_guess}
use Rattle.rapid_rings.proofs.places.is_at.Goals as goal

pub returns-in-Some-clause-place : goal.returns-in-Some-clause-place
returns-in-Some-clause-place c true_ =
    let h = c.in-Some.ensures.lookup in
    rw (← c.members.ensures.value) (at_guess c.members.result.now c.args.process.now c.in-Some.member.now c.args.place
    (rw c.members.ensures.value c.members.ensures.valid.identifiers) h.3.0 h.1 (ap (same_bytes c.args.process.now) (sym c.as_ref.ensures) ∙ sym c.is.ensures ∙ true_))
