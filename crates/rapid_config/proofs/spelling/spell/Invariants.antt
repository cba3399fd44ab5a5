use Rattle.std.proofs.Common.{◌≡◌, ◌++◌, take, length}
use Rattle.std.specs.List.{concat}
use Rattle.rapid_config.proofs.Spelled.{head_bytes}
use Rattle.rapid_config.proofs.spelling.spell.Given as goal

abbrev pub invariant-loop-member : goal.invariant-loop-member
invariant-loop-member l = l.bytes.items ≡ head_bytes l.fn.params l.fn.height l.fn.previous (length l.fn.members) ++ concat (take l.member-index l.members)
