use Rattle.rapid_endpoint.proofs.Listed.{no_more_in}
use Rattle.rapid_endpoint.proofs.process_list.ProcessesIterator.size_hint.Goals as goal

pub returns-clause-upper : goal.returns-clause-upper
returns-clause-upper c = (tt, no_more_in c.args.self.now.left c.args.self.now.bytes.now)
