use Rattle.std.proofs.Common.{◌≡◌, ◌+◌, ◌++◌, ◌∙◌, ap, sym, append_assoc, arith}
use Rattle.rapid_model.specs.StoredWorld.{world_of}
use Rattle.rapid_cluster.specs.ClusterText.{node_line, node_numbered, nodes_text}
use Rattle.rapid_cluster.proofs.Texts.{range_more}
use Rattle.rapid_cluster.proofs.report.write_nodes.Goals as goal

pub loop-before-preserved : goal.loop-before-preserved
loop-before-preserved c =
    let w = world_of c.args.world.now in
    let n = c.loop-before.before in
    let next : 1 + n ≡ n + 1 = omega arith in
    c.in_ok-write_numbered.ensures
    ∙ ap (λ xs. xs ++ node_line (node_numbered w (n + 1))) c.loop-before.invariant
    ∙ append_assoc c.args.output.now.items (nodes_text w n) (node_line (node_numbered w (n + 1)))
    ∙ ap (λ xs. c.args.output.now.items ++ xs)
    (ap (λ k. nodes_text w n ++ node_line (node_numbered w k)) (sym next) ∙ sym (range_more (λ k. node_line (node_numbered w k)) 1 n))
