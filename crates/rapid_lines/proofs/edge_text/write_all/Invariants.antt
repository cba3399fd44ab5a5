use Rattle.std.proofs.Common.{◌≡◌, ◌++◌, take}
use Rattle.rapid_lines.specs.EdgeText.{all_edges_text}
use Rattle.rapid_lines.proofs.edge_text.write_all.Given as goal

abbrev pub invariant-loop-edge : goal.invariant-loop-edge
invariant-loop-edge l = l.output.items ≡ l.fn.output.items ++ all_edges_text (take l.edge-index l.edges)
