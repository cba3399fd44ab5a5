use Rattle.std.proofs.Common.{◌<◌, ◌++◌, List, ℕ, length, get_or, ap, ◌∙◌, arith}
use Rattle.rapid_wire.proofs.Joined.{concat_more}
use Rattle.rapid_wire.proofs.writing.put_processes.Goals as goal

pub loop-process-preserved : goal.loop-process-preserved
loop-process-preserved c =
    let ps = c.args.processes.now in
    let i = c.loop-process.process-index in
    let l : i < length ps = omega arith in
    c.in_ok-append_to.ensures.value
    ∙ ap (λ (x : List ℕ). c.loop-process.out.items ++ x) c.process-item.is
    ∙ ap (λ (x : List ℕ). x ++ get_or ps i c.process-item.result) c.loop-process.invariant
    ∙ concat_more c.args.out.now.items ps i c.process-item.result l
