use Rattle.std.proofs.Common.{◌≡◌, ◌-◌, ◌≤◌, length, take}
use Rattle.std.specs.Io.KnownBytes.{Appends}
use Rattle.rapid_transport.proofs.engine.send.Given as goal

abbrev pub invariant-loop-written : goal.invariant-loop-written
invariant-loop-written g l = record {
  within : l.written ≤ length l.fn.frame;
  wrote : Appends (g.W.CountedWrite.contents l.fn.writer) (g.W.CountedWrite.contents l.writer) (take l.written l.fn.frame);
  counts : g.W.Counted.faults l.writer ≡ g.W.Counted.faults l.fn.writer;
}

abbrev pub decreases-loop-written : goal.decreases-loop-written
decreases-loop-written g l = length l.fn.frame - l.written
