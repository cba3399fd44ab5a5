use Rattle.std.proofs.Common.{◌≡◌, ◌++◌, take}
use Rattle.rapid_lines.specs.ViewText.{members_text}
use Rattle.rapid_lines.proofs.view_text.write_members.Given as goal

abbrev pub invariant-loop-member : goal.invariant-loop-member
invariant-loop-member l = l.output.items ≡ l.fn.output.items ++ members_text (take l.member-index l.members)
