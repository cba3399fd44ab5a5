use Rattle.std.proofs.Common.{rules}
use Rattle.rapid_node.proofs.node.Node.joiner_confirm.Goals as goal

pub seed_in-requires : goal.seed_in-requires
seed_in-requires c = search rules
