use Rattle.std.proofs.Common.{arith}
use Rattle.rapid_model.specs.Process.{IsProcess}
use Rattle.std.proofs.lemmas.List.Elements.{All-more}
use Rattle.rapid_wire.proofs.told.tell_processes.Goals as goal

pub loop-process-preserved : goal.loop-process-preserved
loop-process-preserved c =
    let e = c.process-item.is in
    All-more IsProcess c.args.processes.now c.loop-process.process-index c.process-item.result (omega arith) c.loop-process.invariant (rw (← c.process-item.is) c.tell.ensures)
