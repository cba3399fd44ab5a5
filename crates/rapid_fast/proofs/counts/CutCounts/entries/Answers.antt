use Rattle.std.proofs.Common.{ap, sym, ◌∙◌}
use Rattle.std.specs.FinMap as map
use Rattle.rapid_model.specs.Cut.{cut_cmp}
use Rattle.rapid_fast.proofs.counts.CutCounts.entries.Goals as goal

pub returns : goal.returns
returns c = c.as_slice.ensures.value ∙ sym (map.entries-from_sorted cut_cmp c.self.inside.counts.items c.self.invariant) ∙ ap map.entries c.self.view_is
