use Rattle.std.proofs.Common.{◌++◌, [], ◌∙◌}
use Rattle.rapid_cut.specs.Masks.{reports_in}
use Rattle.rapid_cut.proofs.Masks.{parts, none_in}
use Rattle.rapid_cut.proofs.reports.KnownReports.new.Goals as goal

pub returns-clause-direct : goal.returns-clause-direct
returns-clause-direct c = (λ i. reports_in (parts (λ m. m.direct) (c.new.ensures.items i ++ (c.new-2.ensures.items i ++ [])))) ∙ none_in

pub returns-clause-all : goal.returns-clause-all
returns-clause-all c = (λ i. reports_in (parts (λ m. m.all) (c.new.ensures.items i ++ (c.new-2.ensures.items i ++ [])))) ∙ none_in
