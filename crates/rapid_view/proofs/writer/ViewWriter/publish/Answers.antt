use Rattle.std.proofs.Common.{rules}
use Rattle.rapid_view.proofs.writer.ViewWriter.publish.Goals as goal

pub returns-clause-longer : goal.returns-clause-longer
returns-clause-longer g c = search rules
