use Rattle.rapid_text.proofs.Streams.{if_err, writes_none_of}
use Rattle.rapid_text.proofs.stream.run.Goals as goal

pub returns-in_err-line-clause-begun : goal.returns-in_err-line-clause-begun
returns-in_err-line-clause-begun g c = if_err _ c.from_residual.result (writes_none_of g.E.Engine.prints g.E.Engine.met g.met.E.Engine.speaks _ _ _)

pub returns-in_err-output-clause-begun : goal.returns-in_err-output-clause-begun
returns-in_err-output-clause-begun g c = if_err _ c.from_residual-in_err-output.result (writes_none_of g.E.Engine.prints g.E.Engine.met g.met.E.Engine.speaks _ _ _)

pub returns-in_err-block-clause-begun : goal.returns-in_err-block-clause-begun
returns-in_err-block-clause-begun g c = if_err _ c.from_residual-in_err-block.result (writes_none_of g.E.Engine.prints g.E.Engine.met g.met.E.Engine.speaks _ _ _)
