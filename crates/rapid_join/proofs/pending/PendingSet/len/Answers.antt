use Rattle.std.proofs.Common.{ap, sym, ◌∙◌}
use Rattle.std.specs.FinSet as set
use Rattle.rapid_rings.proofs.Sets.{len-sorted}
use Rattle.rapid_join.proofs.pending.PendingSet.len.Goals as goal

pub returns : goal.returns
returns c = c.len.ensures.len ∙ sym (len-sorted c.self.inside.joiners.keys c.len.ensures.ordered) ∙ ap set.len c.self.view_is
