use Rattle.std.proofs.Common.{◌+◌, length, ap, ◌∙◌}
use Rattle.rapid_world.specs.Framed.{FramedOutput, frames_of}
use Rattle.rapid_world.proofs.Packets.{have_frame}
use Rattle.rapid_world.proofs.sending.find_span.Goals as goal

pub returns-then-number-end : goal.returns-then-number-end
returns-then-number-end c =
    have_frame c.args.recipients.now c.args.outputs.now c.loop-output.output-index c.output-item.result c.args.first c.args.number c.loop-output.before c.in_ok-end.end
    c.loop-output-test.true c.loop-output.invariant.0
    (c.in_ok-end.ensures.1 ∙ ap (λ n. c.loop-output.before + n) (c.count_of.ensures ∙ ap (λ (o : FramedOutput). length (frames_of c.args.recipients.now o)) c.output-item.is))
    c.loop-output.invariant.1 c.if-number-end.true
