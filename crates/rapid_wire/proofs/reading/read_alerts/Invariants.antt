use Rattle.std.proofs.Common.{◌≡◌, ◌-◌}
use Rattle.rapid_alerts.specs.Spelt.{IsBefore}
use Rattle.rapid_wire.specs.Reading.{many, item_at}
use Rattle.rapid_wire.proofs.Loops.{with_front}
use Rattle.rapid_wire.proofs.reading.read_alerts.Given as goal

abbrev pub invariant-loop : goal.invariant-loop
invariant-loop l =
    (with_front l.alerts.items (many (l.count - l.counter) item_at l.rest) ≡ many l.count item_at l.bytes)
    × (l.alerts.observer ≡ l.observer)
    × (l.alerts.config ≡ l.fn.config)
    × IsBefore l.alerts l.before
