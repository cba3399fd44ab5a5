use Rattle.std.specs.Cmp.Lexicographic.{texts_ties}
use Rattle.rapid_config.proofs.config_id.ConfigIdPartialEq.eq.Goals as goal

pub returns : goal.returns
returns c = cc (texts_ties c.self.inside.bytes c.other.inside.bytes)
