use Rattle.std.proofs.Common.{arith, ◌∷◌}
use Rattle.rapid_model.specs.Lines.{space}
use Rattle.rapid_model.specs.Process.{Process}
use Rattle.rapid_model.specs.SimText.{number_text}
use Rattle.rapid_text.proofs.Streams.{on_err}
use Rattle.rapid_text.proofs.Texts.{written_more, front_within}
use Rattle.rapid_text.proofs.written.append_members.Goals as goal

pub loop-member-preserved : goal.loop-member-preserved
loop-member-preserved c =
    written_more (λ (p : Process). space ∷ number_text p) c.args.members.now c.loop-member.member-index c.args.output.now.items c.loop-member.output.items _ c.member-item.result (omega arith) c.member-item.is c.loop-member.invariant c.in_ok-append_member.ensures.written

pub returns-in_err-append_member-clause-begun : goal.returns-in_err-append_member-clause-begun
returns-in_err-append_member-clause-begun c =
    on_err _ c.from_residual.result (front_within _ _ _ _ c.loop-member.invariant c.in_err-append_member.ensures.begun)
