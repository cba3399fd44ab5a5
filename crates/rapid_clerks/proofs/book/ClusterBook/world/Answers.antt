use Rattle.std.proofs.Common.{ap, subst, ◌∙◌}
use Rattle.rapid_model.specs.Agreement.{NoCollision}
use Rattle.rapid_model.specs.RunHolds.{RunHolds}
use Rattle.rapid_model.specs.StoredWorld.{StoredWorld, world_of}
use Rattle.rapid_clerks.specs.Clusters.{ClusterState}
use Rattle.rapid_clerks.proofs.book.ClusterBook.world.Goals as goal

pub returns-clause-holds : goal.returns-clause-holds
returns-clause-holds g c =
    subst (λ (w : StoredWorld). NoCollision (world_of w) → RunHolds (world_of w)) (c.world-world.ensures ∙ ap (λ (s : ClusterState). s.world) c.self.view_is) c.tell.ensures.holds
