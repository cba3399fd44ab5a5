use Rattle.std.proofs.Common.{take, subst, arith}
use Rattle.std.proofs.lemmas.Result.{on_ok_weaker, IfErr-weaker}
use Rattle.std.specs.Io.KnownBytes.{Consumes}
use Rattle.rapid_text.proofs.Streams.{handed_on, if_err, underway_first, underway_more, underway_front, underway_stopped, underway_failed, underway_end}
use Rattle.rapid_text.proofs.stream.answer_all.Goals as goal

pub loop-init : goal.loop-init
loop-init g c = record { underway = underway_first g.E.Engine.prints g.E.Engine.met c.args.engine.now _ _ c.args.line.now c.requires.fresh; empty = c.requires.empty }

pub returns-in_err-count-clause-begun : goal.returns-in_err-count-clause-begun
returns-in_err-count-clause-begun g c =
    if_err _ c.from_residual.result (underway_stopped g.E.Engine.prints g.E.Engine.met g.met.E.Engine.speaks c.args.engine.now _ _ c.loop.engine c.loop.line _ _ c.loop.invariant.underway)

pub returns-then-count-eq0-clause-ok : goal.returns-then-count-eq0-clause-ok
returns-then-count-eq0-clause-ok g c =
    on_ok_weaker c.end_input.result (underway_end g.E.Engine.prints g.E.Engine.met c.args.engine.now _ _ c.loop.engine c.loop.line _ _ _ _ _ c.loop.invariant.underway (subst (λ n. Consumes (g.R.Read.remaining c.loop.reader) (g.R.Read.remaining c.read_some.new.reader) (take n c.read_some.new.block)) c.if-count-eq0.true c.in_ok-count.ensures.ok) (c.in_ok-count.ensures.end c.if-count-eq0.true (omega (arith, c.loop.auto.block, c.requires.room)))) c.end_input.ensures.ok

pub returns-then-count-eq0-clause-begun : goal.returns-then-count-eq0-clause-begun
returns-then-count-eq0-clause-begun g c =
    IfErr-weaker c.end_input.result _ _ (underway_failed g.E.Engine.prints g.E.Engine.met _ c.args.engine.now _ _ c.loop.engine c.loop.line _ _ _ _ c.loop.invariant.underway (subst (λ n. Consumes (g.R.Read.remaining c.loop.reader) (g.R.Read.remaining c.read_some.new.reader) (take n c.read_some.new.block)) c.if-count-eq0.true c.in_ok-count.ensures.ok) (c.in_ok-count.ensures.end c.if-count-eq0.true (omega (arith, c.loop.auto.block, c.requires.room)))) c.end_input.ensures.begun

pub returns-in_err-answer_block-clause-begun : goal.returns-in_err-answer_block-clause-begun
returns-in_err-answer_block-clause-begun g c =
    handed_on _ c.in_err-answer_block.field-0.0 c.from_residual-in_err-answer_block.result c.from_residual-in_err-answer_block.ensures.1
    (underway_front g.E.Engine.prints g.E.Engine.met _ c.args.engine.now _ _ c.loop.engine c.loop.line _ _ _ _ _ c.loop.invariant.underway c.in_ok-count.ensures.ok _ c.in_err-answer_block.ensures.begun)

pub loop-preserved : goal.loop-preserved
loop-preserved g c = record {
  underway = underway_more g.E.Engine.prints g.E.Engine.met c.args.engine.now _ _ c.loop.engine c.answer_block.new.engine c.loop.line c.answer_block.new.line _ _ _ _ _ c.loop.invariant.underway c.in_ok-count.ensures.ok c.in_ok-answer_block.ensures.ok;
  empty = c.in_ok-answer_block.ensures.emptied;
}

pub returns-clause-begun : goal.returns-clause-begun
returns-clause-begun g c = underway_stopped g.E.Engine.prints g.E.Engine.met g.met.E.Engine.speaks c.args.engine.now _ _ c.loop.engine c.loop.line _ _ c.loop.invariant.underway _
