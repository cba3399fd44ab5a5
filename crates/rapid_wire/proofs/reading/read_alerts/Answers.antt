use Rattle.std.proofs.Common.{List, Some, sym, ap, ◌∙◌}
use Rattle.std.proofs.lemmas.Result.{err_from_is_err_and}
use Rattle.rapid_model.specs.Message.{AlertItem}
use Rattle.rapid_alerts.specs.Alerts.{ListedAlerts}
use Rattle.rapid_wire.specs.Reading.{item_at}
use Rattle.rapid_alerts.proofs.Listing.{listed_items}
use Rattle.rapid_wire.proofs.Batches.{listed_from}
use Rattle.rapid_wire.proofs.Loops.{goes_on, ends, is_done}
use Rattle.rapid_wire.proofs.reading.read_alerts.Goals as goal

pub returns-in_err-length-clause-value : goal.returns-in_err-length-clause-value
returns-in_err-length-clause-value c =
    let p = err_from_is_err_and c.from_residual-in_err-length.result c.from_residual-in_err-length.ensures.1 in
    rw (p.1, p.2) (ends c.in_err-length.field-0.0 item_at _ _ _ _ _ c.loop-test.true c.in_err-length.ensures.refused c.loop.invariant.0)

pub returns-clause-value : goal.returns-clause-value
returns-clause-value c =
    is_done item_at _ _ _ _ _ c.loop-test.false c.loop.invariant.0
    ∙ ap (λ (xs : List AlertItem). Some (xs, c.loop.rest.now)) (sym (listed_items c.loop.alerts))

pub returns-clause-from : goal.returns-clause-from
returns-clause-from c = listed_from c.loop.alerts c.args.observer.now c.args.config c.loop.invariant.1 c.loop.invariant.2

pub loop-preserved : goal.loop-preserved
loop-preserved c =
    let more = c.in_ok-length.ensures.added.added in (
      goes_on item_at _ _ _ _ _ _ _ _ _ c.loop-test.true c.in_ok-length.ensures.added.read c.split_at.ensures.back
          (ap (λ (l : ListedAlerts). l.items) more) c.loop.invariant.0,
      ap (λ (l : ListedAlerts). l.observer) more ∙ c.loop.invariant.1,
      ap (λ (l : ListedAlerts). l.config) more ∙ c.loop.invariant.2,
      c.in_ok-length.ensures.next,
    )
