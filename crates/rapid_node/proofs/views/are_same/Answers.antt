use Rattle.std.proofs.lemmas.Slice.Eq.{slice_eq-Decides}
use Rattle.rapid_model.proofs.Orders.{same_bytes_decides}
use Rattle.rapid_node.proofs.views.are_same.Goals as goal

pub returns : goal.returns
returns c h = (slice_eq-Decides same_bytes_decides c.args.a.now c.args.b.now c.eq.result c.eq.ensures).0 h
