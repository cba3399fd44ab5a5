use Rattle.std.proofs.Common.{◌<◌, ◌++◌, List, ℕ, length, get_or, ap, ◌∙◌, arith}
use Rattle.std.proofs.lemmas.List.Elements.{All-more}
use Rattle.rapid_model.specs.Process.{IsProcess}
use Rattle.rapid_endpoint.proofs.Listed.{concat_more}
use Rattle.rapid_endpoint.proofs.process_walk.spelled.Goals as goal

pub loop-process-preserved : goal.loop-process-preserved
loop-process-preserved c =
    let ps = c.args.processes.now in
    let i = c.loop-process.process-index in
    let l : i < length ps = omega arith in (
      c.in_ok-append_to.ensures.value
          ∙ ap (λ (x : List ℕ). c.loop-process.bytes.items ++ x) c.process-item.is
          ∙ ap (λ (x : List ℕ). x ++ get_or ps i c.process-item.result) c.loop-process.invariant.0
          ∙ concat_more ps i c.process-item.result l,
      All-more IsProcess ps i c.process-item.result l c.loop-process.invariant.1 (rw (← c.process-item.is) c.append_to.ensures.process),
    )
