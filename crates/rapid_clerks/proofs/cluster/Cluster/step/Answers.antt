use Rattle.std.proofs.Common.{map, refl, subst, IfOk}
use Rattle.rapid_world.specs.Events.{report_of}
use Rattle.rapid_clerks.specs.Clusters.{ClusterState, DoesJob}
use Rattle.rapid_clerks.proofs.Jobs.{event_is_done, state_at}
use Rattle.rapid_clerks.proofs.cluster.Cluster.step.Goals as goal

pub returns-in-Event-clause-done : goal.returns-in-Event-clause-done
returns-in-Event-clause-done c =
    let old = state_at c.self.inside.world c.self.inside.passed c.self.inside.ticked in
    let new = state_at c.step.new.self c.self.inside.passed c.self.inside.ticked in
    subst (λ (s : ClusterState). IfOk c.step.result (λ reports. DoesJob c.args.job.now s new (map report_of reports.items))) c.self.view_is
    (event_is_done c.step.result (λ reports. map report_of reports.items) c.args.job.now _ old new c.in-Event.is c.step.ensures.stored refl)
