use Rattle.std.proofs.Common.{◌≡◌, ◌≤◌, ◌-◌, Some, length, ap, sym, ◌∙◌, arith}
use Rattle.rapid_model.specs.Outbox.{Outbox, unflushed}
use Rattle.rapid_model.specs.Batch.{batch_fault, batch_of}
use Rattle.rapid_alerts.specs.Alerts.{alerts_in}
use Rattle.rapid_alerts.proofs.Batches.{as_many, stretch_is, unflushed_batch, some_batch, flush_is}
use Rattle.rapid_alerts.proofs.Raisings.{outbox_along}
use Rattle.rapid_alerts.proofs.outbox.Outbox.flush.Goals as goal

pub of-requires : goal.of-requires
of-requires g c =
    let o : Outbox = record { raised = alerts_in c.self.inside.raised; flushed = c.self.inside.flushed } in
    let many : c.min-count.result ≡ length (unflushed o) =
    as_many o.raised o.flushed c.min-count.result (c.len.result - o.flushed) (ap (λ k. k - o.flushed) c.len.ensures.alerts) c.min-count.ensures in
    let some : 1 ≤ length (unflushed o) = grind (arith, many, c.if-count-eq0.false) in
    ap batch_fault (stretch_is c.self.inside.raised c.in_ok-alerts.alerts o.flushed c.min-count.result c.in_ok-alerts.ensures many)
    ∙ unflushed_batch (g.T.ObserverTable.observers c.self.inside.table) c.self.inside.raised.observer o c.self.inside.index c.self.invariant.0 some

pub returns-clause-flushed : goal.returns-clause-flushed
returns-clause-flushed g c =
    let o : Outbox = record { raised = alerts_in c.self.inside.raised; flushed = c.self.inside.flushed } in
    flush_is o.raised o.flushed c.min-count.result (outbox_along c.self.view_is)
    (as_many o.raised o.flushed c.min-count.result (c.len.result - o.flushed) (ap (λ k. k - o.flushed) c.len.ensures.alerts) c.min-count.ensures)

pub returns-clause-batch : goal.returns-clause-batch
returns-clause-batch g c =
    let o : Outbox = record { raised = alerts_in c.self.inside.raised; flushed = c.self.inside.flushed } in
    let many : c.min-count.result ≡ length (unflushed o) =
    as_many o.raised o.flushed c.min-count.result (c.len.result - o.flushed) (ap (λ k. k - o.flushed) c.len.ensures.alerts) c.min-count.ensures in
    let some : 1 ≤ length (unflushed o) = grind (arith, many, c.if-count-eq0.false) in
    ap Some (c.in_ok-batch.ensures ∙ stretch_is c.self.inside.raised c.in_ok-alerts.alerts o.flushed c.min-count.result c.in_ok-alerts.ensures many)
    ∙ sym (some_batch (unflushed o) some)
    ∙ ap (λ (x : Outbox). batch_of (unflushed x)) (outbox_along c.self.view_is)
