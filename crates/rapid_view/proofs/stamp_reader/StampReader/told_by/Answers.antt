use Rattle.std.proofs.Common.{rules}
use Rattle.rapid_view.proofs.stamp_reader.StampReader.told_by.Goals as goal

pub returns-clause-told : goal.returns-clause-told
returns-clause-told c = search rules
