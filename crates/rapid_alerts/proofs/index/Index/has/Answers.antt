use Rattle.std.proofs.Common.{sym, ◌∙◌}
use Rattle.rapid_alerts.proofs.index.Index.has.Goals as goal

pub returns : goal.returns
returns c = c.has_bit.ensures ∙ sym (c.requires.rings c.args.alert.now.ring)
