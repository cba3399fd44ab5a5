use Rattle.std.proofs.Common.{◌≡◌, take}
use Rattle.rapid_dealing.specs.Owners.{hashed}
use Rattle.rapid_dealing.proofs.hash.Given as goal

abbrev pub invariant-loop-byte : goal.invariant-loop-byte
invariant-loop-byte l = l.hash ≡ hashed l.before (take l.byte-index l.bytes)
