use Rattle.std.proofs.Common.{◌≡◌, take}
use Rattle.rapid_config.proofs.references.References.to_vec.Given as goal

abbrev pub invariant-loop-place : goal.invariant-loop-place
invariant-loop-place l = l.processes.items ≡ take l.place l.self
