use Rattle.std.proofs.Common.{◌≡◌, map}
use Rattle.rapid_model.specs.Process.{identifier}
use Rattle.rapid_endpoint.proofs.Walking.{Walked}
use Rattle.rapid_config.proofs.reading.read_members.Given as goal

abbrev pub invariant-loop : goal.invariant-loop
invariant-loop l = Walked l.count 49 l.counter l.at l.bytes l.members.items × (l.identifiers.items ≡ map identifier l.members.items)
