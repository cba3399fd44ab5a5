use Rattle.std.proofs.Common.{◌≡◌, ◌≤◌, length}
use Rattle.std.specs.Prelude.{filter_map}
use Rattle.std.specs.List.{range_with_len}
use Rattle.rapid_model.specs.Ring.{observers_of}
use Rattle.rapid_join.proofs.observers.RingObservers.of.Given as goal

abbrev pub invariant-loop-ring : goal.invariant-loop-ring
invariant-loop-ring l = record {
  found : l.observers.items ≡ filter_map (λ k. (observers_of l.rings).observer k l.process) (range_with_len 0 l.ring);
  few : length l.observers.items ≤ l.ring;
}
