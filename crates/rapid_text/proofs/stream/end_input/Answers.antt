use Rattle.std.proofs.KnownBytes.{Appends-kept}
use Rattle.rapid_text.proofs.Streams.{if_err, wrote_some, whole_front, last_begun, last_stopped}
use Rattle.rapid_text.proofs.stream.end_input.Goals as goal

pub returns-in_err-written-in-Ok-clause-begun : goal.returns-in_err-written-in-Ok-clause-begun
returns-in_err-written-in-Ok-clause-begun g c =
    if_err _ c.from_residual.result (λ fault. last_begun g.E.Engine.prints g.E.Engine.met fault _ _ _ _ _ _ _ c.requires c.in-Ok.ensures.ok c.in_err-written-in-Ok.ensures.begun)

pub returns-in_ok-written-in-Ok-clause-begun : goal.returns-in_ok-written-in-Ok-clause-begun
returns-in_ok-written-in-Ok-clause-begun g c =
    if_err _ c.map_err.result (λ fault. last_begun g.E.Engine.prints g.E.Engine.met fault _ _ _ _ _ _ _ c.requires c.in-Ok.ensures.ok
    (whole_front _ _ _ (Appends-kept _ _ _ _ c.in_ok-written-in-Ok.ensures.ok c.flush.ensures.bytes)))

pub returns-in-Err-clause-begun : goal.returns-in-Err-clause-begun
returns-in-Err-clause-begun g c =
    last_stopped g.E.Engine.prints g.E.Engine.met g.met.E.Engine.speaks _ _ _ _ _ _ _ c.requires c.in-Err.ensures.unchanged (wrote_some c.write_out-written.result _ _ _ c.write_out-written.ensures.ok c.write_out-written.ensures.begun)
