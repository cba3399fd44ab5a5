use Rattle.std.proofs.lemmas.Result.{on_ok_weaker}
use Rattle.rapid_text.proofs.Streams.{err_after, wrote_some, part_begun, part_stopped, part_written}
use Rattle.rapid_text.proofs.stream.answer_block.Goals as goal

pub returns-in-Ok-clause-ok : goal.returns-in-Ok-clause-ok
returns-in-Ok-clause-ok g c = on_ok_weaker c.write_out-written.result (part_written g.E.Engine.prints g.E.Engine.met _ _ _ _ _ _ _ _ _ c.requires c.in-Ok.ensures.ok) c.write_out-written.ensures.ok

pub returns-in-Ok-clause-begun : goal.returns-in-Ok-clause-begun
returns-in-Ok-clause-begun g c =
    err_after c.write_out-written.result (λ fault w. part_begun g.E.Engine.prints g.E.Engine.met g.met.E.Engine.speaks fault _ _ _ _ _ _ _ _ _ c.requires c.in-Ok.ensures.ok w) c.write_out-written.ensures.begun

pub returns-in-Err-clause-begun : goal.returns-in-Err-clause-begun
returns-in-Err-clause-begun g c =
    part_stopped g.E.Engine.prints g.E.Engine.met _ c.args.engine.now c.args.line.now c.args.block.now _ _ _ _ c.requires c.in-Err.ensures.begun (wrote_some c.write_out-written.result _ _ _ c.write_out-written.ensures.ok c.write_out-written.ensures.begun)
