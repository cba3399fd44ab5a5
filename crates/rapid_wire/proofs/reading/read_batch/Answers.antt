use Rattle.std.proofs.Common.{ℕ, Some, map, sym, ap, ◌∙◌}
use Rattle.rapid_model.specs.Message.{item_of}
use Rattle.rapid_alerts.specs.Alerts.{alerts_in}
use Rattle.rapid_wire.proofs.Batches.{are_a_batch}
use Rattle.rapid_wire.proofs.Counts.{no_batch_announced, batch_announced, some_and_few_alerts}
use Rattle.rapid_wire.proofs.reading.read_batch.Goals as goal

pub returns-then-not-may_have-clause-value : goal.returns-then-not-may_have-clause-value
returns-then-not-may_have-clause-value c =
    let read = c.in_ok-count.ensures ∙ ap (λ (n : ℕ). Some (n, c.in_ok-count.rest.now)) (sym c.from-count.ensures) in
    no_batch_announced _ _ _ read (sym c.if-not-may_have.ensures)

pub batch_of-requires : goal.batch_of-requires
batch_of-requires c =
    let has = some_and_few_alerts (alerts_in c.in_ok-alerts.alerts) _ _ _ c.in_ok-alerts.ensures.value (sym c.if-not-may_have.ensures) in
    are_a_batch c.args.observer.now c.args.config (alerts_in c.in_ok-alerts.alerts) c.in_ok-alerts.ensures.from has.0 has.1

pub returns-clause-value : goal.returns-clause-value
returns-clause-value c =
    let read = c.in_ok-count.ensures ∙ ap (λ (n : ℕ). Some (n, c.in_ok-count.rest.now)) (sym c.from-count.ensures) in
    batch_announced _ _ _ _ _ _ read c.in_ok-alerts.ensures.value (sym c.if-not-may_have.ensures) c.in_ok-ended.ensures
    ∙ ap (λ xs. Some (map item_of xs)) (sym c.in_ok-batch_of.ensures)
