use Rattle.rapid_model.proofs.Reporting.{nodes_report as law}
use Rattle.rapid_model.proofs.nodes_report.Goals as goal

pub returns : goal.returns
returns c = law
