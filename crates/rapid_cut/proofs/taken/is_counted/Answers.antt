use Rattle.std.proofs.Common.{◌∙◌, ap, sym, ◌||◌}
use Rattle.rapid_model.specs.Process.{is_in}
use Rattle.rapid_model.specs.Reports.{subjects}
use Rattle.rapid_cut.proofs.Masks.{on_any}
use Rattle.rapid_cut.proofs.taken.is_counted.Goals as goal

pub returns-else-member : goal.returns-else-member
returns-else-member g c =
    c.has_any.ensures ∙ on_any c.args.reports.now.direct c.args.subject.now c.args.mask c.requires.mask
    ∙ ap (λ b. b || is_in (subjects c.args.reports.now.direct) c.args.subject.now) (sym c.if-member.false ∙ c.requires.member)
