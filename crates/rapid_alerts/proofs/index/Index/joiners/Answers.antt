use Rattle.std.proofs.Common.{ap, ◌∙◌}
use Rattle.std.specs.FinSet as set
use Rattle.rapid_alerts.specs.Outboxes.{Index}
use Rattle.rapid_alerts.proofs.index.Index.joiners.Goals as goal

pub returns : goal.returns
returns c = c.self.invariant.counted ∙ ap (λ (i : Index). set.len i.joiners) c.self.view_is
