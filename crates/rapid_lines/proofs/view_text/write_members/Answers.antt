use Rattle.std.proofs.Common.{◌∷◌, arith}
use Rattle.rapid_model.specs.Lines.{space}
use Rattle.rapid_lines.specs.ViewText.{member_text}
use Rattle.rapid_text.proofs.Texts.{written_more}
use Rattle.rapid_lines.proofs.view_text.write_members.Goals as goal

pub loop-member-preserved : goal.loop-member-preserved
loop-member-preserved c =
    written_more (λ p. space ∷ member_text p) c.args.members.now c.loop-member.member-index c.args.output.now.items c.loop-member.output.items _ c.member-item.result (omega arith) c.member-item.is c.loop-member.invariant c.in_ok-write_one_more.ensures
