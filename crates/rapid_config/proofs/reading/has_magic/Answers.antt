use Rattle.std.specs.Cmp.Lexicographic.{texts_ties}
use Rattle.rapid_model.specs.Configuration.{magic}
use Rattle.std.proofs.Common.{take}
use Rattle.rapid_config.proofs.reading.has_magic.Goals as goal

pub returns : goal.returns
returns c = cc (texts_ties (take 4 c.args.bytes.now) magic)
