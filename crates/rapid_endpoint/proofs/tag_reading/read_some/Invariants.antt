use Rattle.std.proofs.Common.{◌≡◌, ◌-◌, []}
use Rattle.rapid_model.specs.Tags as model
use Rattle.rapid_endpoint.proofs.tag_reading.read_some.Given as goal

abbrev pub invariant-loop : goal.invariant-loop
invariant-loop l = model.after_some (l.count - l.counter) l.before l.rest ≡ model.after_some l.count [] l.bytes
