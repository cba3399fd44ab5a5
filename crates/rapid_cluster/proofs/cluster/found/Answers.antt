use Rattle.std.proofs.Common.{◌≡◌, ◌-◌, ◌∷◌, [], ap, subst, ◌∙◌}
use Rattle.rapid_model.specs.Numbered.{numbered}
use Rattle.rapid_model.specs.Process.{Process}
use Rattle.rapid_clerks.specs.Clusters.{ClusterState, new_cluster}
use Rattle.rapid_clerks.specs.Jobs.{DoesJobs}
use Rattle.rapid_cluster.specs.Driven.{starts_of}
use Rattle.rapid_cluster.proofs.Driving.{all_started}
use Rattle.rapid_cluster.proofs.cluster.found.Goals as goal

pub returns-clause-started : goal.returns-clause-started
returns-clause-started g c =
    let params = c.args.params in
    let n = c.args.nodes in
    let end : ClusterState = c.start_others.new.book in
    let new : c.in_ok-book.book ≡ new_cluster params (numbered 1 ∷ []) = c.in_ok-book.ensures.book ∙ ap (λ (p : Process). new_cluster params (p ∷ [])) c.numbered.ensures in
    all_started params n end (subst (λ (begin : ClusterState). DoesJobs begin (starts_of (n - 1)) end) new c.in_ok-start_others.ensures.done)
