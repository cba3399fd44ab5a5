use Rattle.std.proofs.Common.{arith}
use Rattle.rapid_lines.specs.EdgeText.{edge_text}
use Rattle.rapid_text.proofs.Texts.{written_more}
use Rattle.rapid_lines.proofs.edge_text.write_all.Goals as goal

pub loop-edge-preserved : goal.loop-edge-preserved
loop-edge-preserved c =
    written_more edge_text c.args.edges.now c.loop-edge.edge-index c.args.output.now.items c.loop-edge.output.items _ c.edge-item.result (omega arith) c.edge-item.is c.loop-edge.invariant c.in_ok-write_edge.ensures
