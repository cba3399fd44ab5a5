use Rattle.std.proofs.Common.{◌≡◌, map, take}
use Rattle.rapid_model.specs.Process.{identifier}
use Rattle.rapid_config.proofs.members.identifiers_of.Given as goal

abbrev pub invariant-loop-member : goal.invariant-loop-member
invariant-loop-member l = l.identifiers.items ≡ map identifier (take l.member-index l.members)
