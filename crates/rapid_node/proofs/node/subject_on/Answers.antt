use Rattle.std.proofs.Common.{◌∙◌}
use Rattle.rapid_node.proofs.Observed.{observed_is}
use Rattle.rapid_node.proofs.node.subject_on.Goals as goal

pub returns : goal.returns
returns c = c.subject_on.ensures ∙ observed_is c.args.rings.now c.args.me.now c.args.ring
