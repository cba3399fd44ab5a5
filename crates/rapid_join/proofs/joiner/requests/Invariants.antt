use Rattle.std.proofs.Common.{◌≡◌, ◌++◌, drop, map}
use Rattle.rapid_model.specs.Joiner.{requests_from}
use Rattle.rapid_join.specs.Answers.{request_of}
use Rattle.rapid_join.proofs.joiner.requests.Given as goal

abbrev pub invariant-loop-observer : goal.invariant-loop-observer
invariant-loop-observer l = record {
  asked : map request_of l.requests.items ++ requests_from l.ring l.id (drop l.observer-index l.observers) ≡ requests_from 0 l.id l.observers;
  ring : l.ring ≡ l.observer-index;
}
