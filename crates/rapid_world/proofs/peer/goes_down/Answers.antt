use Rattle.std.proofs.Common.{◌∙◌}
use Rattle.rapid_world.proofs.Probing.{says}
use Rattle.rapid_world.proofs.peer.goes_down.Goals as goal

pub returns : goal.returns
returns c = c.unwrap_or.ensures ∙ says c.args.monitors.now c.args.ring c.args.ok c.requires.0 c.is_down_after.result c.requires.1 c.is_down_after.ensures
