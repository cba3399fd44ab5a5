use Rattle.std.proofs.Common.{arith}
use Rattle.rapid_endpoint.proofs.TagLists.{no_more}
use Rattle.rapid_endpoint.proofs.tags.TagsIterIterator.size_hint.Goals as goal

pub returns-clause-upper : goal.returns-clause-upper
returns-clause-upper c = (tt, omega (arith, no_more c.args.self.now.left c.args.self.now.bytes.now, c.from.ensures))
