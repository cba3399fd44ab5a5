use Rattle.rapid_model.proofs.Processes.{process_read, process_tell}
use Rattle.rapid_endpoint.proofs.process.processes_have_one_spelling.Goals as goal

pub returns-clause-spelt : goal.returns-clause-spelt
returns-clause-spelt c = process_read

pub returns-clause-tell : goal.returns-clause-tell
returns-clause-tell c = process_tell
