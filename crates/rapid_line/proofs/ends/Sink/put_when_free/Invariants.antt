use Rattle.std.proofs.Common.{◌≡◌}
use Rattle.rapid_line.proofs.ends.Sink.put_when_free.Given as goal

abbrev pub invariant-loop : goal.invariant-loop
invariant-loop g l = (l.self ≡ l.fn.self) × (l.item ≡ l.fn.item)
