use Rattle.std.proofs.Common.{◌≡◌, ◌+◌, ◌++◌, ◌∙◌, ap, sym, subst, arith}
use Rattle.rapid_model.specs.StoredWorld.{world_of}
use Rattle.rapid_cluster.specs.ClusterText.{all_installed, installed_by, node_numbered}
use Rattle.rapid_cluster.specs.Noting.{Notes}
use Rattle.rapid_cluster.proofs.Texts.{range_more}
use Rattle.rapid_cluster.proofs.report.is_split.Goals as goal

pub loop-before-preserved : goal.loop-before-preserved
loop-before-preserved c =
    let w = world_of c.args.world.now in
    let n = c.loop-before.before in
    let next : 1 + n ≡ n + 1 = omega arith in
    subst (λ seen. Notes seen c.see_numbered.new.agreement.kept.items c.see_numbered.new.agreement.split)
    (ap (λ k. all_installed w n ++ installed_by (node_numbered w k)) (sym next) ∙ sym (range_more (λ k. installed_by (node_numbered w k)) 1 n))
    (c.in_ok-see_numbered.ensures (all_installed w n) c.loop-before.invariant)
