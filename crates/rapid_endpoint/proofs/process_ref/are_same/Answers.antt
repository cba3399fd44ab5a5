use Rattle.std.proofs.Common.{◌∙◌}
use Rattle.std.specs.Cmp.Lexicographic.{texts_ties}
use Rattle.rapid_endpoint.proofs.process_ref.are_same.Goals as goal

pub returns-in_default : goal.returns-in_default
returns-in_default c = c.eq.ensures ∙ texts_ties c.args.tags.now c.args.others.now
