use Rattle.std.proofs.Common.{◌≡◌, take}
use Rattle.std.specs.List.{list_all}
use Rattle.rapid_model.specs.Lines.{is_allowed}
use Rattle.rapid_text.proofs.line.all_allowed.Given as goal

abbrev pub invariant-loop-byte : goal.invariant-loop-byte
invariant-loop-byte l = l.allowed ≡ list_all is_allowed (take l.byte-index l.line)
