use Rattle.std.proofs.Common.{◌≡◌}
use Rattle.rapid_transport.specs.Receiving.{IsUnderway}
use Rattle.rapid_transport.proofs.engine.receive.Given as goal

abbrev pub invariant-loop : goal.invariant-loop
invariant-loop g l = record {
  underway : IsUnderway l.fn.feed l.feed (g.R.CountedRead.remaining l.fn.reader) (g.R.CountedRead.remaining l.reader);
  counts : g.R.Counted.faults l.reader ≡ g.R.Counted.faults l.fn.reader;
}
