use Rattle.std.proofs.Common.{◌≡◌, ◌++◌, take}
use Rattle.rapid_model.specs.SimText.{numbers_text}
use Rattle.rapid_text.proofs.written.append_members.Given as goal

abbrev pub invariant-loop-member : goal.invariant-loop-member
invariant-loop-member l = l.output.items ≡ l.fn.output.items ++ numbers_text (take l.member-index l.members)
