use Rattle.std.proofs.Common.{true, rules}
use Rattle.rapid_sharded_map.proofs.Dealt.{tag_decides}
use Rattle.rapid_sharded_map.proofs.stores.is_store.Goals as goal

pub returns-then-eq-clause-tag : goal.returns-then-eq-clause-tag
returns-then-eq-clause-tag c = tag_decides c.args.process.now true (search rules)
