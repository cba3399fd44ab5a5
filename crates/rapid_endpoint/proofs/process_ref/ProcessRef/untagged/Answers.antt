use Rattle.rapid_endpoint.proofs.Untagged.{untagged_is_process}
use Rattle.rapid_endpoint.proofs.process_ref.ProcessRef.untagged.Goals as goal

pub new-requires-clause-process : goal.new-requires-clause-process
new-requires-clause-process c = untagged_is_process _ c.tell.ensures
