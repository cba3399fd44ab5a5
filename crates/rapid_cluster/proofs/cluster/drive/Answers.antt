use Rattle.std.proofs.Common.{◌≡◌, ◌+◌, ◌*◌, ◌∙◌, sum, length, ap, sym, subst, IfOk, arith}
use Rattle.rapid_model.specs.Agreement.{NoCollision}
use Rattle.rapid_model.specs.RunHolds.{RunHolds}
use Rattle.rapid_model.specs.StoredWorld.{StoredWorld, world_of}
use Rattle.rapid_clerks.specs.Clusters.{ClusterState}
use Rattle.rapid_cluster.specs.ClusterText.{cluster_text}
use Rattle.rapid_cluster.specs.Driven.{IsUnderway, IsDriven}
use Rattle.rapid_cluster.proofs.Driving.{driven}
use Rattle.rapid_cluster.proofs.Reports.{reports}
use Rattle.rapid_cluster.proofs.cluster.drive.Goals as goal

pub returns : goal.returns
returns g c =
    let params = c.args.params in
    let n = c.args.nodes in
    let end : ClusterState = c.into_book-book.result in
    let underway : IsUnderway params n end =
    subst (λ k. IsUnderway params k end) (sym c.requires.nodes) (subst (λ p. IsUnderway p g.A.Asked.nodes end) (sym c.requires.params) c.into_book-book.ensures) in
    let same : c.stored-stored.new.self ≡ end = c.stored-stored.ensures.unchanged in
    let counts = c.in_ok-_counts in
    let many : length counts._counts.items ≡ c.args.crew.workers = grind (arith, counts.ensures.each, counts._counts.ok.0) in
    let all : IsDriven params n (c.args.crew.workers * c.args.crew.turns) end =
    driven params n c.args.crew.workers c.args.crew.turns c.stored-stored.result c.run_clerks.new.share.amount counts._counts.items end underway c.stored-stored.ensures.events c.stored-stored.ensures.counted (counts.ensures.raised ∙ ap (λ k. k + sum counts._counts.items) c.in_ok-book.ensures.share.1) many counts.ensures.most in
    reports params n (c.args.crew.workers * c.args.crew.turns) end c.report.result (λ text. text.items) all
    (subst (λ (s : StoredWorld). IfOk c.report.result (λ text. text.items ≡ cluster_text n s)) (c.world.ensures.world ∙ ap (λ (x : ClusterState). x.world) same) c.report.ensures)
    (subst (λ (x : ClusterState). NoCollision (world_of x.world) → RunHolds (world_of x.world)) same c.world.ensures.holds)
