use Rattle.std.proofs.Common.{ap, ◌∙◌, sym}
use Rattle.rapid_cut.specs.Listed.{masks_at}
use Rattle.rapid_cut.specs.Many.{entries_of}
use Rattle.rapid_cut.proofs.Listed.{in_front, past}
use Rattle.rapid_cut.proofs.reports.masks_among.Goals as goal

pub returns-in-Some : goal.returns-in-Some
returns-in-Some c = sym (in_front c.args.few.now c.args.subject.now c.in-Some.place c.index-few-place.result (entries_of c.args.many.now) c.in-Some.ensures.found)

pub returns-in-Some-many : goal.returns-in-Some-many
returns-in-Some-many c =
    let s = c.args.subject.now in
    c.masks_of.ensures ∙ ap (λ m. masks_at m s) c.deref.ensures ∙ ap (λ o. masks_at (entries_of o) s) (sym c.in-Some-many.is)
    ∙ sym (past c.args.few.now s (entries_of c.args.many.now) c.in_default.ensures.none)
