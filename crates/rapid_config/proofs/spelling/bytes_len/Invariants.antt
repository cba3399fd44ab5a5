use Rattle.std.proofs.Common.{◌≡◌, ◌+◌, ◌*◌, ◌≤◌, length, take}
use Rattle.std.specs.List.{concat}
use Rattle.rapid_config.proofs.spelling.bytes_len.Given as goal

abbrev pub invariant-loop-member : goal.invariant-loop-member
invariant-loop-member l = (l.bytes ≡ 49 + length (concat (take l.member-index l.members))) × (l.bytes ≤ 49 + 543 * l.member-index)
